-- The gain rule for a group, from the single holder's: some member holds the resource after the step and held it not before, so the
-- single rule says how it came; and who had it before is outside the group, since no member had it. Assumes nothing.
use Prim.Native.Nat.{ℕ}
use mathlib.Core.Path.{subst}
use mathlib.Core.List.{List}
use lib.Dec.{T}
use Rattle.lists.proofs.AnyAllLaws.{any-In, In-any}
use Rattle.sheet_rules.specs.Sheet.{Sheet}
use Rattle.machine_rules.specs.State.{State}
use Rattle.machine_rules.specs.Step.{Action}
use Rattle.authority_rules.specs.Authority.{top_holder, holds}
use Rattle.authority_rules.specs.Gain.{Gain, maker, itself, endowed, argument, result}
use Rattle.authority_rules.specs.Group.{group_holds}
use Rattle.authority_rules.specs.GroupGain.{Member, Outside, GroupGain, by_member, of_member, kept_by_member, on_member, to_member, GroupGuaranteed}
use Rattle.authority_rules.proofs.GuaranteeHolds.{guarantee}

module _ (s : Sheet) (σ : State) (hs : List ℕ) (b : ℕ) where
  -- what some member holds, the group holds
  pub Member-holds : {h : ℕ} → Member hs h → T (holds s σ h b) → T (group_holds s σ hs b)
  unfolding group_holds
  Member-holds m t = In-any (λ x. holds s σ x b) hs m t

  -- what the group holds, some member holds
  pub held_member : T (group_holds s σ hs b) → (h : ℕ) × Member hs h × T (holds s σ h b)
  unfolding group_holds
  held_member t = any-In (λ x. holds s σ x b) hs t

  -- a member's gain of what no member held is the group's
  module _ (before : T (group_holds s σ hs b) → ⊥) where
    outside : (x : ℕ) → T (holds s σ x b) → Outside hs x
    outside x t m = before (Member-holds m t)

    group_gain : {h : ℕ} {a : Action} → Member hs h → Gain s σ h b a → GroupGain s σ hs b a
    group_gain m (maker e k) = by_member (subst (Member hs) e m) k
    group_gain m (itself e k) = of_member (subst (Member hs) e m) k
    group_gain m (endowed e k q) = kept_by_member (subst (Member hs) e m) k q
    group_gain m (argument r e k q) = on_member r (subst (Member hs) e m) k (outside (top_holder s σ) q) q
    group_gain m (result r o k q e) = to_member r (outside (top_holder s σ) q) k q (subst (Member hs) e m)

pub group_guarantee : GroupGuaranteed
group_guarantee text s read accepted n σ reached a σ' e hs b now before =
    let f = held_member s σ' hs b now in
    group_gain s σ hs b before f.1 ((guarantee text s read accepted n σ reached).gains a σ' e f.0 b f.2 (λ t. before (Member-holds s σ hs b f.1 t)))
