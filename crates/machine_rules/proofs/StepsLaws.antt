-- Laws of steps and of the run: the tally, one step at a time, and what a run's answer says of the state after its steps.
-- Assumes nothing.
use Prim.Native.Nat.{ℕ, zero, suc, pred, ◌+◌, ◌≤◌, ◌<◌}
use native.Mathlib.Omega.{arith}
use mathlib.Core.Path.{◌≡◌, refl, sym, ap, ◌∙◌, subst}
use mathlib.Core.Bool.{Bool, true, false, cond}
use mathlib.Core.List.{List, [], ◌∷◌, ◌++◌}
use mathlib.Core.Option.{Option, none, some}
use lib.Dec.{ltb}
use lib.ListN.{length, length-map, length-append, length-set}
use Rattle.lists.proofs.Tests.{clash}
use Rattle.sheet_rules.specs.Limits.{store_limit, stack_limit}
use Rattle.sheet_rules.specs.Sheet.{Sheet, Instr, new, call, get, put, copy}
use Rattle.machine_rules.specs.declared.Outcome.{Outcome}
use Rattle.machine_rules.specs.declared.Outcome.TheVariants.{Done, Spent, StoreFull, StackFull}
use Rattle.machine_rules.specs.declared.Tally.{Tally}
use Rattle.machine_rules.specs.State.{Frame, State, start, frame_count, made, object_at}
use Rattle.machine_rules.specs.Step.{Action, creates, calls, returns, works, Next, finished, step, store_full, stack_full, lacking, body_in, field_place, members_of, slot_values, with_new, new_step, called_step, call_step, got_step, get_step, with_field, has_put_step, put_step, instr_step, return_step, code_step, next_step}
use Rattle.machine_rules.specs.Steps.{state_of, step_from, after, is_creation, is_call, is_return, one_if, one_from, among_first, tally_of, start_tally, counted, Ran, budget_used, go_on, run_from, run}

-- the state after n + 1 steps is one step from the state after n
pub after-suc : (s : Sheet) (n : ℕ) → after s (suc n) ≡ step_from s (after s n)
unfolding after
after-suc s n = refl

pub after-step : (s : Sheet) (n : ℕ) (σ σ' : State) (a : Action) → after s n ≡ some σ → next_step s σ ≡ step a σ' → after s (suc n) ≡ some σ'
after-step s n σ σ' a p q = after-suc s n ∙ ap (step_from s) p ∙ ap state_of q

-- the tally: the start, and what a step that is taken does to the counts

abbrev objects_of : Tally → ℕ
objects_of t = t.objects

abbrev frames_of : Tally → ℕ
frames_of t = t.frames

-- the tally that a run starts with counts the state that it starts in
pub tally_start : (s : Sheet) → tally_of 0 (start s) ≡ start_tally (length s.devices)
tally_start s = ap (λ (n : ℕ). record { steps = 0; objects = n; frames = 1 }) (length-map s.devices (λ f. made s f []))

-- the counts after what comes next, if it is a step, are those that its action makes of the counts before
pub data Counted (n : ℕ) (σ : State) : Next → Type 0 where
  moves : {a : Action} {σ' : State} → tally_of (suc n) σ' ≡ counted a (tally_of n σ) → Counted n σ (step a σ')
  ends : {v : ℕ} → Counted n σ (finished v)
  store : Counted n σ store_full
  stack : Counted n σ stack_full
  lacks : Counted n σ lacking

module _ (s : Sheet) (n : ℕ) (σ : State) where
  tally_new : (is : List Instr) (f : ℕ) (kept : List ℕ) → Counted n σ (new_step s σ is f kept)
  tally_new is f kept = go (ltb (length σ.objects) store_limit)
    where
      more : length (σ.objects ++ (made s f kept ∷ [])) ≡ suc (length σ.objects)
      more = rw length-append (omega arith)

      go : (b : Bool) → Counted n σ (cond b (step (creates (length σ.objects) kept) (with_new s σ is f kept)) store_full)
      go true = moves (λ i. record { steps = suc n; objects = more i; frames = frame_count σ })
      go false = store

  tally_call : (is : List Instr) (receiver m argument : ℕ) → Counted n σ (call_step s σ is receiver m argument)
  tally_call is receiver m argument = go (ltb (frame_count σ) stack_limit) (body_in _ _ m)
    where
      go : (b : Bool) (code : Option (List Instr)) → Counted n σ (cond b (called_step σ is receiver argument code) stack_full)
      go true none = lacks
      go true (some code) = moves refl
      go false code = stack

  tally_get : (is : List Instr) (own : Option ℕ) (m : ℕ) → Counted n σ (get_step s σ is own m)
  tally_get is none m = lacks
  tally_get is (some o) m = go (field_place (members_of s (object_at σ.objects o)) m)
    where
      go : (p : Option ℕ) → Counted n σ (got_step σ is o p)
      go none = lacks
      go (some i) = moves refl

  tally_put : (is : List Instr) (own : Option ℕ) (m v : ℕ) → Counted n σ (put_step s σ is own m v)
  tally_put is none m v = lacks
  tally_put is (some o) m v = go (field_place (members_of s (object_at σ.objects o)) m)
    where
      go : (p : Option ℕ) → Counted n σ (has_put_step σ is o v p)
      go none = lacks
      go (some i) =
          moves (λ j. record { steps = suc n; objects = length-set σ.objects o (with_field (object_at σ.objects o) i v) j; frames = frame_count σ })

  tally_instr : (i : Instr) (is : List Instr) → Counted n σ (instr_step s σ i is)
  unfolding instr_step
  tally_instr (new f ss) is = tally_new is f (slot_values σ.top.slots ss)
  tally_instr (call o m a) is = tally_call is _ m _
  tally_instr (get m) is = tally_get is σ.top.own m
  tally_instr (put m v) is = tally_put is σ.top.own m _
  tally_instr (copy v) is = moves refl

  tally_return : (fs : List Frame) → σ.below ≡ fs → Counted n σ (return_step σ fs)
  unfolding return_step
  tally_return [] e = ends
  tally_return (f ∷ fs) e =
      let h : length σ.below ≡ suc (length fs) = ap length e in
      let less : suc (length fs) ≡ pred (frame_count σ) = omega arith in
      moves (λ i. record { steps = suc n; objects = length σ.objects; frames = less i })

  tally_code : (is : List Instr) → Counted n σ (code_step s σ is)
  unfolding code_step
  tally_code [] = tally_return σ.below refl
  tally_code (i ∷ is) = tally_instr i is

  -- the counts after the next step
  pub tally_next : Counted n σ (next_step s σ)
  unfolding next_step
  tally_next = tally_code σ.top.code

-- what the counts are, for every n: the number of objects is the number of devices plus the creations among the first n steps, and the
-- number of frames is one plus the calls less the returns
pub record CountsTaken (s : Sheet) (n : ℕ) (σ : State) : Type 0 where
  pub objects : length σ.objects ≡ length s.devices + among_first is_creation s n
  pub frames : frame_count σ + among_first is_return s n ≡ 1 + among_first is_call s n

taken_next : (s : Sheet) (n : ℕ) (σ σ' : State) → CountsTaken s n σ → after s n ≡ some σ → (x : Next) → next_step s σ ≡ x → Counted n σ x → state_of x ≡ some σ'
    → CountsTaken s (suc n) σ'
unfolding among_first
taken_next s n σ σ' p e (finished v) q c f = clash (cc)
taken_next s n σ σ' p e store_full q c f = clash (cc)
taken_next s n σ σ' p e stack_full q c f = clash (cc)
taken_next s n σ σ' p e lacking q c f = clash (cc)
taken_next s n σ σ' p e (step a τ) q (moves m) f = go a (one is_creation) (one is_return) (one is_call) counts
  where
    -- what the step adds
    one : (test : Action → Bool) → one_from test s (after s n) ≡ cond (test a) 1 0
    one test = ap (one_from test s) e ∙ ap (one_if test) q

    same : τ ≡ σ'
    same = cc

    counts : tally_of (suc n) σ' ≡ counted a (tally_of n σ)
    counts = ap (tally_of (suc n)) (sym same) ∙ m

    go : (a : Action) → one_from is_creation s (after s n) ≡ cond (is_creation a) 1 0 → one_from is_return s (after s n) ≡ cond (is_return a) 1 0
        → one_from is_call s (after s n) ≡ cond (is_call a) 1 0 → tally_of (suc n) σ' ≡ counted a (tally_of n σ) → CountsTaken s (suc n) σ'
    go (creates c kept) x y z t = record { objects = omega (arith, p.objects, ap objects_of t); frames = omega (arith, p.frames, ap frames_of t) }
    go (calls receiver value) x y z t = record { objects = omega (arith, p.objects, ap objects_of t); frames = omega (arith, p.frames, ap frames_of t) }
    go (returns v) x y z t = record { objects = omega (arith, p.objects, ap objects_of t); frames = omega (arith, p.frames, ap frames_of t) }
    go works x y z t = record { objects = omega (arith, p.objects, ap objects_of t); frames = omega (arith, p.frames, ap frames_of t) }

pub counts_taken : (s : Sheet) (n : ℕ) (σ : State) → after s n ≡ some σ → CountsTaken s n σ
unfolding after among_first
counts_taken s zero σ e =
    let same : start s ≡ σ = cc in
    subst (CountsTaken s 0) same (record { objects = omega (arith, length-map s.devices (λ f. made s f [])); frames = refl })
counts_taken s (suc n) σ e = go (after s n) refl (counts_taken s n) e
  where
    go : (x : Option State) → after s n ≡ x → ((τ : State) → x ≡ some τ → CountsTaken s n τ) → step_from s x ≡ some σ → CountsTaken s (suc n) σ
    go none p earlier q = clash (cc)
    go (some τ) p earlier q = taken_next s n τ σ (earlier τ refl) p (next_step s τ) refl (tally_next s n τ) q

-- the run: what its outcome says of the state that it left

abbrev pub is_finished : Next → Bool
is_finished (finished v) = true
is_finished (step a σ) = false
is_finished store_full = false
is_finished stack_full = false
is_finished lacking = false

-- why a run within a budget ended, after n steps, in a state
pub data Why (s : Sheet) (budget n : ℕ) (σ : State) : Outcome → Type 0 where
  done : {v : ℕ} → next_step s σ ≡ finished v → Why s budget n σ Done
  spent : n ≡ budget → is_finished (next_step s σ) ≡ false → Why s budget n σ Spent
  store : n < budget → next_step s σ ≡ store_full → Why s budget n σ StoreFull
  stack : n < budget → next_step s σ ≡ stack_full → Why s budget n σ StackFull
  lacks : n < budget → next_step s σ ≡ lacking → Why s budget n σ Spent

-- a run's steps lead from the start to the state that it left, within the budget, and its outcome has its reason there
pub record Ends (s : Sheet) (budget : ℕ) (r : Ran) : Type 0 where
  pub reached : after s r.steps ≡ some r.last
  pub within : r.steps ≤ budget
  pub why : Why s budget r.steps r.last r.outcome

budget_why : (s : Sheet) (budget n : ℕ) (σ : State) → n ≡ budget → (x : Next) → next_step s σ ≡ x → Why s budget n σ (budget_used x)
budget_why s budget n σ e (finished v) p = done p
budget_why s budget n σ e (step a σ') p = spent e (ap is_finished p)
budget_why s budget n σ e store_full p = spent e (ap is_finished p)
budget_why s budget n σ e stack_full p = spent e (ap is_finished p)
budget_why s budget n σ e lacking p = spent e (ap is_finished p)

run_from-Ends : (s : Sheet) (budget left n : ℕ) (σ : State) → after s n ≡ some σ → n + left ≡ budget → Ends s budget (run_from s left n σ)
unfolding run_from
run_from-Ends s budget zero n σ p e =
    record { reached = p; within = omega arith; why = budget_why s budget n σ (omega arith) (next_step s σ) refl }
run_from-Ends s budget (suc left) n σ p e =
    go (λ a σ' q. run_from-Ends s budget left (suc n) σ' (after-step s n σ σ' a p q) (omega arith)) (next_step s σ) refl
  where
    go : ((a : Action) (σ' : State) → next_step s σ ≡ step a σ' → Ends s budget (run_from s left (suc n) σ'))
        → (x : Next) → next_step s σ ≡ x → Ends s budget (go_on x n σ (λ σ'. run_from s left (suc n) σ'))
    go more (finished v) q = record { reached = p; within = omega arith; why = done q }
    go more (step a σ') q = more a σ' q
    go more store_full q = record { reached = p; within = omega arith; why = store (omega arith) q }
    go more stack_full q = record { reached = p; within = omega arith; why = stack (omega arith) q }
    go more lacking q = record { reached = p; within = omega arith; why = lacks (omega arith) q }

-- the run's step count, last state and outcome are those of the states after n steps
pub run-Ends : (s : Sheet) (budget : ℕ) → Ends s budget (run s budget)
unfolding run after
run-Ends s budget = run_from-Ends s budget budget 0 (start s) refl (omega arith)
