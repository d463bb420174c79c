-- What is held at the start of a well-typed sheet: exactly what the rule says. Assumes nothing.
use Prim.Native.Nat.{ℕ, suc, ◌+◌, ◌<◌}
use native.Mathlib.Omega.{arith}
use mathlib.Core.Path.{◌≡◌, refl, sym, ◌∙◌, subst}
use mathlib.Core.Bool.{Bool, ◌||◌}
use mathlib.Core.List.{[], ◌∷◌}
use mathlib.Core.Logic.{◌⊎◌, inl, inr, ◌↔◌}
use lib.Dec.{T, eqb→eq, ltb, lt→ltb}
use lib.ListN.{length, get_or}
use Rattle.lists.specs.In.{In, here, there}
use Rattle.lists.specs.AtPlaces.{at_places}
use Rattle.lists.proofs.InLaws.{In-nil}
use Rattle.lists.proofs.TabLaws.{get_or-tab}
use Rattle.lists.proofs.AtPlacesLaws.{AtPlace, places_at, at_place}
use Rattle.lists.proofs.Tests.{and_intro, or_left, or_cases}
use Rattle.sheet_rules.specs.Sheet.{Sheet, code_names, row_of_form, device_at}
use Rattle.sheet_rules.specs.WellFormed.{WellFormed}
use Rattle.type_rules.specs.Typed.{Typed}
use Rattle.machine_rules.specs.State.{Object, start, object_at}
use Rattle.machine_rules.proofs.StartLaws.{started, started_slots, started-length, slots_length, device_resource, device_object}
use Rattle.authority_rules.specs.Counted.{is_last, usable}
use Rattle.authority_rules.specs.Authority.{main_holder, is_resource_kind, is_resource, holder_of, own_values, holds}
use Rattle.authority_rules.specs.Origin.{HeldAtStart, by_itself, by_main}
use Rattle.authority_rules.proofs.HoldingLaws.{resource_made, Reaches, by_top, by_slot, by_own, Holds-is, is_holds}
use Rattle.authority_rules.proofs.KindLaws.{not_pure}

module _ (s : Sheet) (w : WellFormed s) (t : Typed s) where
  -- the test of main's slots at the start
  abbrev counts : ℕ → Bool
  counts v = code_names s.main v || is_last (start s).top v

  -- main's first slots are the devices' numbers
  slot_is : (v : ℕ) → v < length s.devices → get_or (started_slots s) v 0 ≡ v
  slot_is v h = get_or-tab (λ i. i) (length s.devices) v 0 h

  -- main's last slot is not filled
  not_last : (v : ℕ) → v < length s.devices → T (is_last (start s).top v) → ⊥
  not_last v h e =
      let q : suc v ≡ length (started_slots s) + length s.main = eqb→eq (suc v) (length (started_slots s) + length s.main) e in
      omega (arith, q, slots_length s, w.main.some)

  -- main's frame is main's
  main_top : holder_of s (started s) ((start s).top ∷ []) ≡ main_holder
  unfolding holder_of
  main_top = refl

  module _ (h b : ℕ) where
    -- what main's slots hold
    by_slots : main_holder ≡ h → AtPlace counts (started_slots s) b → HeldAtStart s h b
    by_slots e p =
        let l : p.place < length s.devices = omega (arith, p.inside, slots_length s) in
        let same : b ≡ p.place = p.is ∙ slot_is p.place l in
        subst (λ (x : ℕ). HeldAtStart s x b) e (subst (HeldAtStart s main_holder) (sym same) (by_main l (named p.place l (or_cases (code_names s.main p.place) (is_last (start s).top p.place) p.passes))))
      where
        named : (v : ℕ) → v < length s.devices → T (code_names s.main v) ⊎ T (is_last (start s).top v) → T (code_names s.main v)
        named v l (inl c) = c
        named v l (inr c) = absurd (not_last v l c)

    -- what is a device's own
    own_is : h < length s.devices → In b (own_values usable s h (object_at (started s) h)) → b ≡ h
    unfolding at_places
    own_is l i = go (subst (λ (o : Object). In b (own_values usable s h o)) (device_object s w t h l) i)
      where
        go : In b (h ∷ []) → b ≡ h
        go (here e) = e
        go (there j) = absurd (In-nil j)

    held_start : T (holds s (start s) h b) → HeldAtStart s h b
    held_start held = go (Holds-is usable s (start s) h b held).reaches
      where
        go : Reaches usable s (start s) h b → HeldAtStart s h b
        go (by_top e i) = by_slots (sym main_top ∙ e) (places_at counts (started_slots s) i)
        go (by_slot q) = elim q [ ]
        go (by_own r i) =
            let l : h < length s.devices = omega (arith, resource_made s (started s) h r, started-length s) in
            subst (HeldAtStart s h) (sym (own_is l i)) (by_itself l)

  -- a device is a resource object
  device_holds : (d : ℕ) → d < length s.devices → T (is_resource s (started s) d)
  unfolding is_resource
  device_holds d l =
      and_intro (ltb d (length (started s))) (is_resource_kind (row_of_form s (object_at (started s) d).form).kind) (lt→ltb d (length (started s)) (omega (arith, started-length s)))
      (subst (λ (o : Object). T (is_resource_kind (row_of_form s o.form).kind)) (sym (device_object s w t d l))
      (not_pure (row_of_form s (device_at s d)).kind (device_resource s w t d l)))

  start_held : (h b : ℕ) → HeldAtStart s h b → T (holds s (start s) h b)
  start_held h b (by_itself l) = is_holds usable s (start s) h h (omega (arith, started-length s, w.few_devices)) (record { resource = device_holds h l; reaches = by_own (device_holds h l) (here refl) })
  start_held h b (by_main l c) =
      is_holds usable s (start s) main_holder b (omega (arith, started-length s, w.few_devices))
      (record {
        resource = device_holds b l;
        reaches = by_top main_top (at_place counts (started_slots s)
            (record { place = b; inside = omega (arith, slots_length s); passes = or_left (code_names s.main b) (is_last (start s).top b) c; is = sym (slot_is b l) }));
      })

  pub start_exactly : (h b : ℕ) → T (holds s (start s) h b) ↔ HeldAtStart s h b
  start_exactly h b = (held_start h b, start_held h b)
