-- Whatever is held after n steps was held at the start or gained at one of the n steps: from the guarantee, step by step; and what
-- follows from it. Assumes nothing.
use Prim.Native.Nat.{ℕ, zero, suc, ◌≤◌, ◌<◌}
use native.Mathlib.Omega.{arith}
use mathlib.Core.Path.{◌≡◌, refl, sym, subst}
use mathlib.Core.Bool.{Bool, true, false}
use mathlib.Core.List.{List}
use mathlib.Core.Option.{Option, none, some}
use mathlib.Core.Logic.{◌⊎◌, inl, inr}
use lib.Dec.{T}
use lib.ListN.{length}
use Rattle.lists.proofs.Tests.{clash}
use Rattle.sheet_rules.specs.declared.Verdict.TheVariants.{Accepted}
use Rattle.sheet_rules.specs.Sheet.{Sheet}
use Rattle.sheet_rules.specs.Reading.{readable, meaning}
use Rattle.type_rules.specs.Typing.{verdict}
use Rattle.type_rules.proofs.TypedLaws.{accepted_sheet}
use Rattle.machine_rules.specs.State.{State, start}
use Rattle.machine_rules.specs.Step.{next_step}
use Rattle.machine_rules.specs.Steps.{step_from, after}
use Rattle.machine_rules.proofs.SoundLaws.{state_of-step}
use Rattle.authority_rules.specs.Authority.{top_holder, holds}
use Rattle.authority_rules.specs.Guarantee.{Guaranteed}
use Rattle.authority_rules.specs.Origin.{HeldAtStart, by_itself, by_main, StepWithin, GainedWithin, Originates}
use Rattle.authority_rules.proofs.GuaranteeHolds.{guarantee}
use Rattle.authority_rules.proofs.GuaranteeUsed.{Makes, Gain-from}
use Rattle.authority_rules.proofs.StartHeld.{start_exactly}

-- one of the first n steps is one of more
step_later : {s : Sheet} {m n : ℕ} → m ≤ n → StepWithin s m → StepWithin s n
step_later h t =
    record {
      number = t.number;
      within = omega (arith, t.within);
      before = t.before;
      reached = t.reached;
      action = t.action;
      leaves = t.leaves;
      taken = t.taken;
    }

-- from the guarantee, of an accepted text, for a holder and a resource
module _ (g : Guaranteed) (text : List ℕ) (s : Sheet) (read : meaning text ≡ readable s) (accepted : verdict text ≡ Accepted) (h b : ℕ) where
  -- a step more: held before it, or gained at it
  more : (n : ℕ) (σ τ : State) → after s n ≡ some τ → step_from s (some τ) ≡ some σ → (T (holds s τ h b) → HeldAtStart s h b ⊎ GainedWithin s n h b)
      → T (holds s σ h b) → HeldAtStart s h b ⊎ GainedWithin s (suc n) h b
  unfolding step_later
  more n σ τ p e earlier held = go (holds s τ h b) refl
    where
      go : (x : Bool) → holds s τ h b ≡ x → HeldAtStart s h b ⊎ GainedWithin s (suc n) h b
      go true q = pick (earlier (subst T (sym q) tt))
        where
          pick : HeldAtStart s h b ⊎ GainedWithin s n h b → HeldAtStart s h b ⊎ GainedWithin s (suc n) h b
          pick (inl i) = inl i
          pick (inr i) = inr (record { at = step_later (omega arith) i.at; unheld = i.unheld; held = i.held; gain = i.gain })
      go false q =
          let x = state_of-step (next_step s τ) σ e in
          let unheld : T (holds s τ h b) → ⊥ = λ u. subst T q u in
          inr (record {
            at = record { number = n; within = omega arith; before = τ; reached = p; action = x.0; leaves = σ; taken = x.1 };
            unheld = unheld;
            held = held;
            gain = (g text s read accepted n τ p).gains x.0 σ x.1 h b held unheld;
          })

  originates : (n : ℕ) (σ : State) → after s n ≡ some σ → T (holds s σ h b) → HeldAtStart s h b ⊎ GainedWithin s n h b
  unfolding after
  originates zero σ e held =
      let p = accepted_sheet text s read accepted in
      let same : start s ≡ σ = cc in
      inl ((start_exactly s p.0 p.1 h b).0 (subst (λ (x : State). T (holds s x h b)) (sym same) held))
  originates (suc n) σ e held = go (after s n) refl (originates n) e
    where
      go : (x : Option State) → after s n ≡ x → ((τ : State) → x ≡ some τ → T (holds s τ h b) → HeldAtStart s h b ⊎ GainedWithin s n h b) → step_from s x ≡ some σ
          → HeldAtStart s h b ⊎ GainedWithin s (suc n) h b
      go none p earlier q = clash (cc)
      go (some τ) p earlier q = more n σ τ p q (earlier τ refl) held

pub origin : Originates
origin text s read accepted n σ e h b held = originates guarantee text s read accepted h b n σ e held

-- WHAT FOLLOWS

-- what was gained was made by that step, or was held before it by the holder at work
pub gained_from : {s : Sheet} {n h b : ℕ} (g : GainedWithin s n h b) → Makes b g.at.action ⊎ T (holds s g.at.before (top_holder s g.at.before) b)
gained_from g = Gain-from g.gain

-- b was made at one of the first n steps
pub record MadeWithin (s : Sheet) (n b : ℕ) : Type 0 where
  pub at : StepWithin s n
  pub makes : Makes b at.action

-- of an accepted text, whatever anyone holds is a device or was made at one of the steps: followed back from holder to holder, each gain
-- at an earlier step than the one before
module _ (o : Originates) (text : List ℕ) (s : Sheet) (read : meaning text ≡ readable s) (accepted : verdict text ≡ Accepted) (b : ℕ) where
  at_start : {h : ℕ} → HeldAtStart s h b → b < length s.devices
  at_start (by_itself l) = l
  at_start (by_main l c) = l

  -- b is a device, or was made at one of the first n steps
  abbrev Rooted : ℕ → Type 0
  Rooted n = (b < length s.devices) ⊎ MadeWithin s n b

  -- so it is for all that is held after fewer than k steps
  abbrev RootedBelow : ℕ → Type 0
  RootedBelow k = (n : ℕ) → n < k → (σ : State) → after s n ≡ some σ → (h : ℕ) → T (holds s σ h b) → Rooted n

  rooted_next : (k : ℕ) → RootedBelow k → RootedBelow (suc k)
  unfolding step_later
  rooted_next k below n l σ e h held = go (o text s read accepted n σ e h b held)
    where
      earlier : (t : StepWithin s n) → Rooted t.number → Rooted n
      earlier t (inl d) = inl d
      earlier t (inr m) = inr (record { at = step_later (omega (arith, t.within)) m.at; makes = m.makes })

      by-step : (t : StepWithin s n) → Makes b t.action ⊎ T (holds s t.before (top_holder s t.before) b) → Rooted n
      by-step t (inl m) = inr (record { at = t; makes = m })
      by-step t (inr q) = earlier t (below t.number (omega (arith, t.within)) t.before t.reached (top_holder s t.before) q)

      go : HeldAtStart s h b ⊎ GainedWithin s n h b → Rooted n
      go (inl i) = inl (at_start i)
      go (inr g) = by-step g.at (gained_from g)

  rooted_below : (k : ℕ) → RootedBelow k
  rooted_below zero = λ n l σ e h held. absurd (omega arith)
  rooted_below (suc k) = rooted_next k (rooted_below k)

  pub rooted : (n : ℕ) (σ : State) → after s n ≡ some σ → (h : ℕ) → T (holds s σ h b) → Rooted n
  rooted n σ e h held = rooted_below (suc n) n (omega arith) σ e h held
