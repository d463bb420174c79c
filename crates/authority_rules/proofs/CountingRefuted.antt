-- Ways of counting that look natural and make the gain rule false, each with its sheet (document 02, order 6): by them a call gives
-- somebody something else than its argument. By what can still be used it never does. And what is false for the sets of today: that
-- whatever a way of Gain gives is held after the step. Assumes nothing.
use Prim.Native.Nat.{ℕ, suc}
use native.Mathlib.Omega.{arith}
use mathlib.Core.Path.{◌≡◌, refl}
use mathlib.Core.Bool.{◌||◌}
use mathlib.Core.List.{List, [], ◌++◌, foldr}
use mathlib.Core.Option.{some}
use lib.Dec.{T, eqb}
use lib.ListN.{length}
use Rattle.lists.specs.AtPlaces.{at_places}
use Rattle.sheet_rules.specs.declared.Verdict.TheVariants.{Accepted}
use Rattle.sheet_rules.specs.Samples.{text_of}
use Rattle.sheet_rules.specs.Sheet.{Sheet, named_slots, code_names}
use Rattle.sheet_rules.specs.Reading.{readable, meaning}
use Rattle.type_rules.specs.Typing.{verdict}
use Rattle.machine_rules.specs.State.{Frame, State}
use Rattle.machine_rules.specs.Step.{Action, calls, step, next_step, slot_values}
use Rattle.machine_rules.specs.Steps.{after, run}
use Rattle.authority_rules.specs.Counted.{is_last, top_slots, waiting_slots, named_kept, Counting, usable}
use Rattle.authority_rules.specs.Authority.{is_resource, holds_by, holds}
use Rattle.authority_rules.specs.Gain.{Gain, maker}
use Rattle.authority_rules.proofs.GuaranteeHolds.{guarantee}
use Rattle.authority_rules.proofs.GuaranteeUsed.{Gain-called}
use Rattle.authority_rules.proofs.Opened.{holding}
use Rattle.authority_rules.proofs.SmallSheets.{sheet_of, two, farewell, idle, twice}

-- of every accepted text, after every n steps: what somebody holds after a call and not before it, by a way of counting, is the
-- call's argument
abbrev pub CallsGiveArgument : Counting → Type 0
CallsGiveArgument c = (text : List ℕ) (s : Sheet) → meaning text ≡ readable s → verdict text ≡ Accepted → (n : ℕ) (σ : State) → after s n ≡ some σ
    → (receiver argument : ℕ) (σ' : State) → next_step s σ ≡ step (calls receiver argument) σ'
    → (h b : ℕ) → T (holds_by c s σ' h b) → (T (holds_by c s σ h b) → ⊥) → b ≡ argument

pub usable_calls : CallsGiveArgument usable
usable_calls text s read accepted n σ reached receiver argument σ' e h b now before =
    Gain-called ((guarantee text s read accepted n σ reached).gains (calls receiver argument) σ' e h b now before)

-- REFUTED

-- the last slot filled so far counts: the clerk that keeps resource 1 and does not name it gets it when its body is entered
abbrev last_filled : Counting
last_filled =
    record {
      top = λ f. at_places (λ v. code_names f.code v || eqb (suc v) (length f.slots)) f.slots;
      waiting = waiting_slots;
      kept = named_kept;
    }

pub not_last_filled : CallsGiveArgument last_filled → ⊥
unfolding holding sheet_of
not_last_filled claim =
    let s = sheet_of (meaning (text_of idle)) in
    let e : ◌≡◌ {A = ℕ} 1 0 = claim (text_of idle) s refl refl 3 (run s 3).last refl 2 0 (run s 4).last refl 2 1 tt (λ t. t) in
    omega (arith, e)

-- a frame with no instruction left counts its last slot although a callee lies above it: main gets resource 2 by its own call
abbrev waiting_last : Counting
waiting_last = record { top = top_slots; waiting = top_slots; kept = named_kept }

pub not_waiting_last : CallsGiveArgument waiting_last → ⊥
unfolding holding sheet_of
not_waiting_last claim =
    let s = sheet_of (meaning (text_of farewell)) in
    let e : ◌≡◌ {A = ℕ} 2 0 = claim (text_of farewell) s refl refl 3 (run s 3).last refl 1 0 (run s 4).last refl 256 2 tt (λ t. t) in
    omega (arith, e)

-- the slots that code names are looked up, 0 standing for one that is not filled: the clerk gets object 0, a resource
abbrev looked_up : Frame → List ℕ
looked_up f = slot_values f.slots (foldr (λ i vs. named_slots i ++ vs) [] f.code)

abbrev zero_if_empty : Counting
zero_if_empty = record { top = λ f. looked_up f ++ at_places (is_last f) f.slots; waiting = looked_up; kept = named_kept }

pub not_zero_if_empty : CallsGiveArgument zero_if_empty → ⊥
unfolding holding sheet_of
not_zero_if_empty claim =
    let s = sheet_of (meaning (text_of twice)) in
    let e : ◌≡◌ {A = ℕ} 0 1 = claim (text_of twice) s refl refl 3 (run s 3).last refl 2 1 (run s 4).last refl 2 0 tt (λ t. t) in
    omega (arith, e)

-- that whatever a way of Gain gives is held after the step: main makes a resource that no instruction names
pub no_converse : ((text : List ℕ) (s : Sheet) → meaning text ≡ readable s → verdict text ≡ Accepted → (n : ℕ) (σ : State) → after s n ≡ some σ
    → (a : Action) (σ' : State) → next_step s σ ≡ step a σ' → (h b : ℕ) → T (is_resource s σ'.objects b) → Gain s σ h b a → T (holds s σ' h b)) → ⊥
unfolding holding sheet_of
no_converse claim =
    let s = sheet_of (meaning (text_of two)) in
    claim (text_of two) s refl refl 0 (run s 0).last refl _ (run s 1).last refl 256 0 tt (maker refl refl)
