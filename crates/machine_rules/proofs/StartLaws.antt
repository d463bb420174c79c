-- The start of a well-typed sheet: each device is an object that keeps nothing and has no field, main's first slots have them, and the
-- state is sound. Assumes nothing.
use Prim.Native.Nat.{ℕ, ◌<◌}
use native.Mathlib.Omega.{arith}
use mathlib.Core.Path.{◌≡◌, refl, sym, ap, ◌∙◌, subst}
use mathlib.Core.List.{List, []}
use mathlib.Core.Option.{none}
use lib.Dec.{T}
use lib.ListN.{length, length-map}
use Rattle.lists.specs.In.{In}
use Rattle.lists.specs.Pairwise.{Pairwise, pair}
use Rattle.lists.proofs.InLaws.{In-get_or}
use Rattle.lists.proofs.TabLaws.{length-tab, get_or-tab, map-tab, Pairwise-tab}
use Rattle.sheet_rules.specs.declared.Member.{Member}
use Rattle.sheet_rules.specs.Sheet.{Part, Sheet, no_form, form_at, row_of_form, device_at}
use Rattle.sheet_rules.specs.WellFormed.{PartOf, field, method, WellFormed}
use Rattle.type_rules.specs.Fit.{fits}
use Rattle.type_rules.specs.SlotRows.{main_rows, members_at}
use Rattle.type_rules.specs.Typing.{is_pure}
use Rattle.type_rules.specs.Typed.{DeviceTyped, FormTyped, Typed}
use Rattle.type_rules.proofs.FitLaws.{fits_refl}
use Rattle.machine_rules.specs.State.{Object, no_object, object_at, initial_fields, made, start}
use Rattle.machine_rules.specs.Sound.{Is, SoundObject, main, bottom, Sound}
use Rattle.machine_rules.proofs.StoreLaws.{initial_fit}

-- parts of a form that keeps nothing have no field: an `init` needs a kept value
no_fields : {forms : ℕ} {ms : List Member} {ps : List Part} → Pairwise (PartOf forms 0) ms ps → initial_fields ps [] ≡ []
unfolding initial_fields
no_fields Pairwise.none = refl
no_fields (pair (field h) p) = absurd (omega arith)
no_fields (pair (method b) p) = no_fields p

module _ (s : Sheet) where
  -- the objects at the start, and main's slots
  abbrev pub started : List Object
  started = (start s).objects

  abbrev pub started_slots : List ℕ
  started_slots = (start s).top.slots

  pub started-length : length started ≡ length s.devices
  started-length = length-map s.devices (λ f. made s f [])

  pub slots_length : length started_slots ≡ length s.devices
  slots_length = length-tab (λ i. i) (length s.devices)

  started_at : (o : ℕ) → o < length s.devices → object_at started o ≡ made s (device_at s o) []
  started_at o h =
      ap (λ (os : List Object). object_at os o) (map-tab (λ f. made s f []) s.devices 0)
      ∙ get_or-tab (λ i. made s (device_at s i) []) (length s.devices) o no_object h

module _ (s : Sheet) (w : WellFormed s) (t : Typed s) where
  module _ (o : ℕ) (h : o < length s.devices) where
    is_device : In (device_at s o) s.devices
    is_device = In-get_or s.devices o 0 h

    pub device_form : device_at s o < length s.forms
    device_form = w.devices (device_at s o) is_device

    device_typed : DeviceTyped s (device_at s o)
    device_typed = t.devices (device_at s o) is_device

    -- a device is a resource
    pub device_resource : T (is_pure (row_of_form s (device_at s o)).kind) → ⊥
    device_resource = device_typed.resource

    -- and has nothing but its form
    pub device_object : object_at (started s) o ≡ record { form = device_at s o; kept = []; fields = [] }
    device_object = started_at s o h ∙ ap (λ (vs : List ℕ). record { form = device_at s o; kept = []; fields = vs }) (no_fields parts)
      where
        parts : Pairwise (PartOf (length s.forms) 0) (members_at s (form_at s (device_at s o)).row) (form_at s (device_at s o)).parts
        parts =
            subst (λ (ks : List ℕ). Pairwise (PartOf (length s.forms) (length ks)) (members_at s (form_at s (device_at s o)).row) (form_at s (device_at s o)).parts)
            device_typed.keeps_none (w.forms (form_at s (device_at s o)) (In-get_or s.forms (device_at s o) no_form device_form)).parts

    device_sound : SoundObject s (started s) (made s (device_at s o) [])
    device_sound =
        let f : FormTyped s (form_at s (device_at s o)) = t.forms (form_at s (device_at s o)) (In-get_or s.forms (device_at s o) no_form device_form) in
        let none_kept : Pairwise (Is s (started s)) [] (form_at s (device_at s o)).keeps = subst (Pairwise (Is s (started s)) []) (sym device_typed.keeps_none) Pairwise.none in
        record { form = device_form; kept = none_kept; fields = initial_fit s (started s) (form_at s (device_at s o)) [] none_kept f.parts }

  -- main's first slots have the devices, each of its form's row
  slots_sound : Pairwise (Is s (started s)) (started_slots s) (main_rows s)
  slots_sound =
      subst (Pairwise (Is s (started s)) (started_slots s)) (sym (map-tab (λ f. (form_at s f).row) s.devices 0))
      (Pairwise-tab (λ i. i) (λ i. (form_at s (device_at s i)).row) (length s.devices)
      (λ i h. record {
        made = omega (arith, started-length s);
        fit =
            subst (λ (x : Object). T (fits s.rows (form_at s x.form).row (form_at s (device_at s i)).row)) (sym (started_at s i h))
            (fits_refl s.rows (form_at s (device_at s i)).row);
      }))

  -- the start is sound
  pub start-Sound : Sound s (start s)
  start-Sound =
      record {
        store = λ o h. (let l : o < length s.devices = omega (arith, started-length s) in subst (SoundObject s (started s)) (sym (started_at s o l)) (device_sound o l));
        own = none;
        result = none;
        rows = main_rows s;
        top = record { receives = main; slots = slots_sound };
        code = t.main;
        room = omega (arith, w.main.few, w.few_devices, slots_length s);
        below = bottom;
        places = omega (arith, w.few_devices, started-length s);
        height = omega arith;
      }
