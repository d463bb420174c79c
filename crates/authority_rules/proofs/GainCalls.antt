-- What a call may give: a receiver that is a resource gets the argument from the caller's authority. Assumes nothing.
use Prim.Native.Nat.{ℕ, ◌≤◌, ◌<◌}
use native.Mathlib.Omega.{arith}
use mathlib.Core.Path.{◌≡◌, refl, sym, subst}
use mathlib.Core.Bool.{Bool, true, false, cond}
use mathlib.Core.List.{List, ◌∷◌}
use mathlib.Core.Option.{Option, none, some}
use lib.Dec.{T, ltb}
use lib.ListN.{length, get_or}
use Rattle.lists.specs.In.{In, here, there}
use Rattle.lists.proofs.InLaws.{In-left, In-get_or}
use Rattle.lists.proofs.PairwiseLaws.{Pairwise-length}
use Rattle.lists.proofs.Tests.{true→T}
use Rattle.sheet_rules.specs.Limits.{stack_limit}
use Rattle.sheet_rules.specs.Sheet.{Instr, call, body, Form, Sheet, no_form, form_at}
use Rattle.sheet_rules.specs.WellFormed.{WellFormedForm, WellFormed}
use Rattle.type_rules.specs.Typed.{Typed}
use Rattle.machine_rules.specs.State.{Object, State, frame_count, object_at}
use Rattle.machine_rules.specs.Step.{calls, stack_full, body_in, members_of, entered, called_step, call_step}
use Rattle.machine_rules.specs.Sound.{Sound}
use Rattle.machine_rules.proofs.StoreLaws.{values_made}
use Rattle.machine_rules.proofs.FoundLaws.{body_formed}
use Rattle.machine_rules.proofs.NextLaws.{its_step, its_stack, its_lack}
use Rattle.authority_rules.specs.Counted.{named_kept, usable}
use Rattle.authority_rules.specs.Authority.{is_resource, holder_of, top_holder, holds}
use Rattle.authority_rules.specs.Gain.{Gain, argument}
use Rattle.authority_rules.proofs.HoldingLaws.{this, later, Reaches, by_top, by_slot, by_own, is_holds}
use Rattle.authority_rules.proofs.CountedLaws.{waiting_top, Enters, the_own, the_argument, a_kept, entered_top, named_kept_lem, body-kept}
use Rattle.authority_rules.proofs.KindLaws.{pure_keeps}
use Rattle.authority_rules.proofs.GainWorks.{Gains, GainsNext, top_named}

module _ (s : Sheet) (w : WellFormed s) (t : Typed s) (σ : State) (c : Sound s σ) where
  call_gains : (i : Instr) (is code : List Instr) → σ.top.code ≡ i ∷ is → (receiver value : ℕ) → receiver < length σ.objects
      → Reaches usable s σ (top_holder s σ) value → 1 ≤ length code → In (body code) (form_at s (object_at σ.objects receiver).form).parts
      → Gains s σ (calls receiver value) (entered σ is receiver value code)
  unfolding holder_of
  call_gains i is code e receiver value is_made reach one part h b p new = go p.reaches
    where
      x : Object
      x = object_at σ.objects receiver

      -- b was reached before
      old : Reaches usable s σ h b → Gain s σ h b (calls receiver value)
      old r = absurd (new (record { resource = p.resource; reaches = r }))

      -- the argument comes from the caller's authority
      given : b ≡ value → Reaches usable s σ (top_holder s σ) b
      given k = subst (Reaches usable s σ (top_holder s σ)) (sym k) reach

      held : b ≡ value → T (holds s σ (top_holder s σ) b)
      held k = is_holds usable s σ (top_holder s σ) b c.places (record { resource = p.resource; reaches = given k })

      -- a resource receiver, in whose frame b counts
      receives : T (is_resource s σ.objects receiver) → h ≡ receiver → Enters receiver value x.kept code b → Gain s σ h b (calls receiver value)
      receives r k (the_own m) = old (subst (λ (y : ℕ). Reaches usable s σ y b) (sym k) (by_own r (here m)))
      receives r k (the_argument m) = argument r k m (held m)
      receives r k (a_kept m) =
          old (subst (λ (y : ℕ). Reaches usable s σ y b) (sym k) (by_own r (there (In-left (named_kept s x) x.fields (body-kept s x code part m)))))

      -- a pure receiver, whose frame belongs to the caller's holder
      passes : is_resource s σ.objects receiver ≡ false → h ≡ top_holder s σ → Enters receiver value x.kept code b → Gain s σ h b (calls receiver value)
      passes r k (the_own m) = absurd (subst T r (subst (λ (y : ℕ). T (is_resource s σ.objects y)) m p.resource))
      passes r k (the_argument m) = old (subst (λ (y : ℕ). Reaches usable s σ y b) (sym k) (given m))
      passes r k (a_kept m) = absurd (pure_keeps s w t σ c receiver b is_made r (named_kept_lem s x (body-kept s x code part m)) p.resource)

      first : (r : Bool) → is_resource s σ.objects receiver ≡ r → cond r receiver (top_holder s σ) ≡ h → Enters receiver value x.kept code b
          → Gain s σ h b (calls receiver value)
      first true r k m = receives (true→T (is_resource s σ.objects receiver) r) (sym k) m
      first false r k m = passes r (sym k) m

      go : Reaches usable s (entered σ is receiver value code) h b → Gain s σ h b (calls receiver value)
      go (by_own r k) = old (by_own r k)
      go (by_top k m) = first (is_resource s σ.objects receiver) refl k (entered_top (some receiver) receiver value x.kept code one m)
      go (by_slot (this k m)) = old (by_top k (waiting_top σ.top i is e m))
      go (by_slot (later q)) = old (by_slot q)

  pub call-GainsNext : (is : List Instr) (o n a : ℕ) → σ.top.code ≡ call o n a ∷ is → o < length c.rows → a < length c.rows
      → GainsNext s σ (call_step s σ is (get_or σ.top.slots o 0) n (get_or σ.top.slots a 0))
  call-GainsNext is o n a e h k = go (ltb (frame_count σ) stack_limit) (body_in (members_of s x) f.parts n) refl
    where
      receiver : ℕ
      receiver = get_or σ.top.slots o 0

      value : ℕ
      value = get_or σ.top.slots a 0

      x : Object
      x = object_at σ.objects receiver

      f : Form
      f = form_at s x.form

      is_made : receiver < length σ.objects
      is_made = values_made c.top.slots (In-get_or σ.top.slots o 0 (omega (arith, Pairwise-length c.top.slots)))

      formed : WellFormedForm s.rows (length s.forms) f
      formed = w.forms f (In-get_or s.forms x.form no_form (c.store receiver is_made).form)

      go : (b : Bool) (code : Option (List Instr)) → body_in (members_of s x) f.parts n ≡ code → GainsNext s σ (cond b (called_step σ is receiver value code) stack_full)
      go true none q = its_lack tt
      go true (some code) q =
          let m = body_formed n code formed.parts q in
          its_step (call_gains (call o n a) is code e receiver value is_made (top_named s σ c (call o n a) is e a k (there (here refl))) m.1.some m.0)
      go false code q = its_stack tt
