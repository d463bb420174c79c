-- When a state is finished, and when its next step is stopped (document 01, The machine): by the top frame and the counts.
-- Stands on State.
use Rattle.std.specs.Prelude.{ℕ, ◌≡◌, List, [], ◌∷◌, length}
use Rattle.std.proofs.Math.Option.{none}
use Rattle.sheet_rules.specs.Limits.{store_limit, stack_limit}
use Rattle.sheet_rules.specs.Sheet.{Instr, new, call}
use Rattle.machine_rules.specs.State.{Frame, State, frame_count}

-- a frame is main's: it alone has no receiver (The machine)
abbrev pub IsMains : Frame → Type 0
IsMains f = f.own ≡ none

-- the top frame is main's, and has no instruction left (The machine)
abbrev pub AtEnd : State → Type 0
AtEnd σ = IsMains σ.top × (σ.top.code ≡ [])

-- the next instruction is a `new` (The machine)
pub data BeginsWithNew : List Instr → Type 0 where
  a_new : {f : ℕ} {ss : List ℕ} {is : List Instr} → BeginsWithNew (new f ss ∷ is)

-- the next instruction is a `call` (The machine)
pub data BeginsWithCall : List Instr → Type 0 where
  a_call : {o n a : ℕ} {is : List Instr} → BeginsWithCall (call o n a ∷ is)

-- a `new` with 256 objects (The machine)
abbrev pub NoPlace : State → Type 0
NoPlace σ = BeginsWithNew σ.top.code × (length σ.objects ≡ store_limit)

-- a `call` with 64 frames (The machine)
abbrev pub NoFrame : State → Type 0
NoFrame σ = BeginsWithCall σ.top.code × (frame_count σ ≡ stack_limit)
