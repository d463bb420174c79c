-- What a return may give: a frame that belongs to h gets the value of a frame of another resource. Assumes nothing.
use Prim.Native.Nat.{ℕ, ◌<◌}
use native.Mathlib.Omega.{arith}
use native.Mathlib.Decide.{ℕ_discrete}
use mathlib.Core.Path.{◌≡◌, refl, sym, ap, ◌∙◌, subst}
use mathlib.Core.Bool.{Bool, true, false, cond}
use mathlib.Core.List.{List, [], ◌∷◌}
use mathlib.Core.Option.{Option, none, some}
use mathlib.Core.Logic.{◌⊎◌, inl, inr}
use lib.Dec.{T}
use lib.ListN.{length}
use Rattle.lists.specs.In.{In}
use Rattle.lists.proofs.PairwiseLaws.{Pairwise-length}
use Rattle.lists.proofs.Tests.{true→T}
use Rattle.sheet_rules.specs.Sheet.{Sheet}
use Rattle.type_rules.specs.SlotRows.{Own}
use Rattle.machine_rules.specs.State.{Frame, State, last_of, filled}
use Rattle.machine_rules.specs.Step.{returns, return_step}
use Rattle.machine_rules.specs.Sound.{Receives, object, SoundBelow, waits, Sound}
use Rattle.machine_rules.proofs.NextLaws.{its_step, its_end}
use Rattle.authority_rules.specs.Counted.{waiting_slots, usable}
use Rattle.authority_rules.specs.Authority.{is_resource, frame_holder, holder_of, top_holder, holds}
use Rattle.authority_rules.specs.Gain.{Gain, result}
use Rattle.authority_rules.proofs.HoldingLaws.{SlotOf, this, later, Reaches, by_top, by_slot, by_own, is_holds}
use Rattle.authority_rules.proofs.CountedLaws.{returned_top, last_top}
use Rattle.authority_rules.proofs.GainWorks.{Gains, GainsNext, top_slot}

module _ (s : Sheet) (σ : State) (c : Sound s σ) where
  -- a frame above another belongs to a resource, or to the holder beneath
  receiver_holder : {own : Option ℕ} {a : Own} {r : ℕ} (beneath : ℕ) → Receives s σ.objects own a (some r)
      → T (is_resource s σ.objects (frame_holder s σ.objects own beneath)) ⊎ (frame_holder s σ.objects own beneath ≡ beneath)
  receiver_holder beneath (object {o = o} h e) = go (is_resource s σ.objects o) refl
    where
      go : (b : Bool) → is_resource s σ.objects o ≡ b → T (is_resource s σ.objects (cond b o beneath)) ⊎ (cond b o beneath ≡ beneath)
      go true e = inl (true→T (is_resource s σ.objects o) e)
      go false e = inr refl

  top_holder_lem : {r : ℕ} → c.result ≡ some r → T (is_resource s σ.objects (top_holder s σ)) ⊎ (top_holder s σ ≡ holder_of s σ.objects σ.below)
  unfolding holder_of
  top_holder_lem e = receiver_holder (holder_of s σ.objects σ.below) (subst (Receives s σ.objects σ.top.own c.own) e c.top.receives)

  return_gains : (r : ℕ) (f : Frame) (fs : List Frame) → σ.top.code ≡ [] → c.result ≡ some r → σ.below ≡ f ∷ fs → 0 < length c.rows
      → Gains s σ (returns (last_of σ.top.slots)) (record { objects = σ.objects; top = filled f (last_of σ.top.slots); below = fs })
  unfolding holder_of
  return_gains r f fs code e d l h b p new = go p.reaches
    where
      v : ℕ
      v = last_of σ.top.slots

      -- b was reached before
      old : Reaches usable s σ h b → Gain s σ h b (returns v)
      old q = absurd (new (record { resource = p.resource; reaches = q }))

      value : b ≡ v → Reaches usable s σ (top_holder s σ) b
      value k = subst (Reaches usable s σ (top_holder s σ)) (sym k) (top_slot s σ (last_top σ.top code (omega (arith, Pairwise-length c.top.slots))))

      held : b ≡ v → T (holds s σ (top_holder s σ) b)
      held k = is_holds usable s σ (top_holder s σ) b c.places (record { resource = p.resource; reaches = value k })

      passed : h ≡ holder_of s σ.objects σ.below → b ≡ v → Dec (top_holder s σ ≡ h) → Gain s σ h b (returns v)
      passed m k (yes same) = old (subst (λ (y : ℕ). Reaches usable s σ y b) same (value k))
      passed m k (no other) = pick (top_holder_lem e)
        where
          pick : T (is_resource s σ.objects (top_holder s σ)) ⊎ (top_holder s σ ≡ holder_of s σ.objects σ.below) → Gain s σ h b (returns v)
          pick (inl q) = result q other k (held k) m
          pick (inr q) = absurd (other (q ∙ sym m))

      -- what a frame below had
      below : SlotOf s σ.objects waiting_slots h b (f ∷ fs) → Gain s σ h b (returns v)
      below q = old (by_slot (subst (SlotOf s σ.objects waiting_slots h b) (sym d) q))

      go : Reaches usable s (record { objects = σ.objects; top = filled f v; below = fs }) h b → Gain s σ h b (returns v)
      go (by_own q i) = old (by_own q i)
      go (by_slot q) = below (later q)
      go (by_top m i) = pick (returned_top f v i)
        where
          pick : In b (waiting_slots f) ⊎ (b ≡ v) → Gain s σ h b (returns v)
          pick (inl k) = below (this m k)
          pick (inr k) = passed (sym m ∙ ap (holder_of s σ.objects) (sym d)) k (ℕ_discrete (top_holder s σ) h)

  pub return_gains_next : (result : Option ℕ) (fs : List Frame) → σ.top.code ≡ [] → c.result ≡ result → σ.below ≡ fs → SoundBelow s σ.objects result fs
      → 0 < length c.rows → GainsNext s σ (return_step σ fs)
  unfolding return_step
  return_gains_next none [] code e d b l = its_end
  return_gains_next (some r) (f ∷ fs) code e d (waits r' frame left room fit b) l = its_step (return_gains r f fs code e d l)
  return_gains_next none (f ∷ fs) code e d b l = elim b [ ]
  return_gains_next (some r) [] code e d b l = elim b [ ]
