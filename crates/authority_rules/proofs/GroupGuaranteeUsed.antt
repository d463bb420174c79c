-- What follows from the gain rule for a group, by every word of it: some member gained, who called or returned is outside, what is
-- given was held when every slot counted, a group of one has the single holder's rule, and a group at work gains only what it makes. And what is false: that
-- a creation, too, comes from outside. Assumes nothing.
use Prim.Native.Nat.{ℕ}
use mathlib.Core.Path.{◌≡◌, refl, sym, subst}
use mathlib.Core.List.{List, [], ◌∷◌}
use mathlib.Core.Option.{some}
use lib.Dec.{T}
use Rattle.lists.specs.In.{In, here}
use Rattle.lists.specs.AnyAll.{any}
use Rattle.lists.proofs.InLaws.{In-one}
use Rattle.lists.proofs.AnyAllLaws.{In-any}
use Rattle.sheet_rules.specs.declared.Verdict.TheVariants.{Accepted}
use Rattle.sheet_rules.specs.Samples.{text_of, P}
use Rattle.sheet_rules.specs.Sheet.{Sheet}
use Rattle.sheet_rules.specs.Reading.{readable, meaning}
use Rattle.type_rules.specs.Typing.{verdict}
use Rattle.machine_rules.specs.State.{State}
use Rattle.machine_rules.specs.Step.{Action, creates, calls, returns, step, next_step}
use Rattle.machine_rules.specs.Steps.{after, run}
use Rattle.authority_rules.specs.Authority.{is_resource, holder_of, top_holder, holds}
use Rattle.authority_rules.specs.Before.{held_before}
use Rattle.authority_rules.specs.Gain.{Gain, maker, itself, endowed, argument, result}
use Rattle.authority_rules.specs.Group.{group_holds}
use Rattle.authority_rules.specs.GroupGain.{Member, Outside, GroupGain, by_member, of_member, kept_by_member, on_member, to_member, GroupGuaranteed}
use Rattle.authority_rules.proofs.GainGives.{Gain-gives}
use Rattle.authority_rules.proofs.Opened.{holding}
use Rattle.authority_rules.proofs.SmallSheets.{sheet_of}
use Rattle.authority_rules.proofs.GuaranteeUsed.{Makes, made_is}
use Rattle.authority_rules.proofs.GroupGuaranteeHolds.{Member-holds, held_member}

module _ {s : Sheet} {σ : State} {hs : List ℕ} {b : ℕ} where
  -- some member gained it by the single holder's rule
  pub Member-gains : {a : Action} → GroupGain s σ hs b a → (h : ℕ) × Member hs h × Gain s σ h b a
  Member-gains (by_member m k) = (top_holder s σ, m, maker refl k)
  Member-gains (of_member {c = c} m k) = (c, m, itself refl k)
  Member-gains (kept_by_member {c = c} m k q) = (c, m, endowed refl k q)
  Member-gains (on_member {receiver = o} r m k x q) = (o, m, argument r refl k q)
  Member-gains (to_member r x k q m) = (holder_of s σ.objects σ.below, m, result r (λ e. x (subst (Member hs) (sym e) m)) k q refl)

  -- no member calls a group's gain, or returns it
  pub caller_outside : {receiver value : ℕ} → GroupGain s σ hs b (calls receiver value) → In (top_holder s σ) hs → ⊥
  caller_outside (on_member r m k x q) = x

  pub returner_outside : {value : ℕ} → GroupGain s σ hs b (returns value) → In (top_holder s σ) hs → ⊥
  returner_outside (to_member r x k q m) = x

-- of every accepted text, after every n steps, for every list and every resource
module _ (text : List ℕ) (s : Sheet) (read : meaning text ≡ readable s) (accepted : verdict text ≡ Accepted) (n : ℕ) (σ : State) (reached : after s n ≡ some σ)
    (a : Action) (σ' : State) (e : next_step s σ ≡ step a σ') where
  -- what a way gives, if it is a resource after the step, some member held after it when every slot and kept value counted
  pub GroupGain-gives : (hs : List ℕ) (b : ℕ) → T (is_resource s σ'.objects b) → GroupGain s σ hs b a → T (any (λ h. held_before s σ' h b) hs)
  GroupGain-gives hs b r g =
      let f = Member-gains g in
      In-any (λ h. held_before s σ' h b) hs f.1 (Gain-gives text s read accepted n σ reached a σ' e f.0 b r f.2)

  -- from the group's rule alone
  module _ (g : GroupGuaranteed) where
    -- a group of one gives the single holder's rule
    pub single_gains : (h b : ℕ) → T (holds s σ' h b) → (T (holds s σ h b) → ⊥) → Gain s σ h b a
    single_gains h b now before =
        let f = Member-gains (g text s read accepted n σ reached a σ' e (h ∷ []) b (Member-holds s σ' (h ∷ []) b (here refl) now) (λ t. before (alone t))) in
        subst (λ (x : ℕ). Gain s σ x b a) (In-one f.1) f.2
      where
        alone : T (group_holds s σ (h ∷ []) b) → T (holds s σ h b)
        alone t = let m = held_member s σ (h ∷ []) b t in subst (λ (x : ℕ). T (holds s σ x b)) (In-one m.1) m.2

    -- while a member's code runs, a group of any size gains nothing but what the step makes
    pub member_at_work : (hs : List ℕ) → In (top_holder s σ) hs → (b : ℕ) → T (group_holds s σ' hs b) → (T (group_holds s σ hs b) → ⊥) → Makes b a
    member_at_work hs inside b now before = go (g text s read accepted n σ reached a σ' e hs b now before)
      where
        go : {a : Action} → GroupGain s σ hs b a → Makes b a
        go (by_member m k) = made_is k
        go (of_member m k) = made_is k
        go (kept_by_member m k q) = absurd (before (Member-holds s σ hs b inside q))
        go (on_member r m k x q) = absurd (x inside)
        go (to_member r x k q m) = absurd (x inside)

-- WHAT IS FALSE

-- that a creation, too, comes from outside: main makes P's scale in its second step, and a group of main alone did not hold it
pub no_outside_creation : ((text : List ℕ) (s : Sheet) → meaning text ≡ readable s → verdict text ≡ Accepted → (n : ℕ) (σ : State) → after s n ≡ some σ
    → (c : ℕ) (kept : List ℕ) (σ' : State) → next_step s σ ≡ step (creates c kept) σ'
    → (hs : List ℕ) (b : ℕ) → T (group_holds s σ' hs b) → (T (group_holds s σ hs b) → ⊥) → Outside hs (top_holder s σ)) → ⊥
unfolding holding sheet_of
no_outside_creation claim =
    let s = sheet_of (meaning (text_of P)) in
    claim (text_of P) s refl refl 1 (run s 1).last refl 1 [] (run s 2).last refl (256 ∷ []) 1 tt (λ t. t) (here refl)
