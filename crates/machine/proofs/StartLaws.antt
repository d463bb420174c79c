-- The devices put in their places, one after another, and the state that the buffer then holds: the start. Assumes nothing.
use Prim.Native.Nat.{ℕ, ◌+◌, ◌-◌, ◌≤◌, ◌<◌}
use native.Mathlib.Omega.{arith}
use native.Mathlib.Decide.{ℕ_discrete}
use mathlib.Core.Path.{◌≡◌, sym, ap, ◌∙◌, subst}
use mathlib.Core.List.{List, []}
use mathlib.Core.Option.{none}
use lib.ListN.{length, set, length-set}
use lib.Seq.{get_or-set_same, get_or-set_other}
use Rattle.lists.specs.Tab.{tab}
use Rattle.lists.proofs.PairwiseLaws.{Pairwise-length}
use Rattle.lists.proofs.TabLaws.{tab_is, tab_ext}
use Rattle.sheet_rules.specs.Sheet.{Sheet, device_at}
use Rattle.machine_rules.specs.State.{Object, no_object, start}
use Rattle.machine_rules.specs.Steps.{start_tally}
use Rattle.machine_rules.proofs.StartLaws.{started, started-length, device_object, start-Sound}
use Rattle.table.specs.Layout.{main_start_at, main_count_at, device_count_at, object_address, kept_address, field_address, slot_address, state_end, work_size}
use Rattle.table.specs.View.{cell, instrs_in, sheet_in}
use Rattle.table.specs.Only.{Only}
use Rattle.table.specs.Whole.{Whole}
use Rattle.table.proofs.ViewLaws.{Only-refl, Only-trans, Only-set, sheet_in_same}
use Rattle.table.proofs.SheetLaws.{main_is, devices-length, devices_few, only_whole}
use Rattle.machine_state.specs.Held.{kept_count, field_count, object_in, objects_in, slots_in, below_in, state_in}
use Rattle.machine.specs.Runs.{start_top, device_put, DevicesPut, Ready}

-- the sheet stays what it is while the state changes
pub sheet_kept : (w w' : List ℕ) → Only (object_address 0) state_end w w' → sheet_in w' ≡ sheet_in w
sheet_kept w w' o = sheet_in_same w w' (λ i h. o.below i (omega arith))

-- ONE DEVICE

module _ (w : List ℕ) (d : ℕ) (small : d < 8) where
  put_only : Only (object_address 0) state_end w (device_put w d)
  put_only =
      Only-trans (Only-set (object_address 0) state_end w (object_address d) (device_at (sheet_in w) d) (omega arith) (omega arith))
      (Only-set (object_address 0) state_end (set w (object_address d) (device_at (sheet_in w) d)) (slot_address 0 d) d (omega arith) (omega arith))

  put_form : work_size ≤ length w → cell (device_put w d) (object_address d) ≡ device_at (sheet_in w) d
  put_form size =
      get_or-set_other (set w (object_address d) (device_at (sheet_in w) d)) (slot_address 0 d) (object_address d) d 0 (λ e. omega arith)
      ∙ get_or-set_same w (object_address d) (device_at (sheet_in w) d) 0 (omega arith)

  put_slot : work_size ≤ length w → cell (device_put w d) (slot_address 0 d) ≡ d
  put_slot size = get_or-set_same (set w (object_address d) (device_at (sheet_in w) d)) (slot_address 0 d) d 0 (omega (arith, length-set w (object_address d) (device_at (sheet_in w) d)))

  -- the others stay where they are
  form_kept : (i : ℕ) → i < d → cell (device_put w d) (object_address i) ≡ cell w (object_address i)
  form_kept i h =
      get_or-set_other (set w (object_address d) (device_at (sheet_in w) d)) (slot_address 0 d) (object_address i) d 0 (λ e. omega arith)
      ∙ get_or-set_other w (object_address d) (object_address i) (device_at (sheet_in w) d) 0 (λ e. omega arith)

  slot_kept : (i : ℕ) → i < d → cell (device_put w d) (slot_address 0 i) ≡ cell w (slot_address 0 i)
  slot_kept i h =
      get_or-set_other (set w (object_address d) (device_at (sheet_in w) d)) (slot_address 0 d) (slot_address 0 i) d 0 (λ e. omega arith)
      ∙ get_or-set_other w (object_address d) (slot_address 0 i) (device_at (sheet_in w) d) 0 (λ e. omega arith)

-- ALL DEVICES

-- the first d devices are in their places
pub record Putting (w₀ w : List ℕ) (d : ℕ) : Type 0 where
  pub within : d ≤ length (sheet_in w₀).devices
  pub only : Only (object_address 0) state_end w₀ w
  pub forms : (i : ℕ) → i < d → cell w (object_address i) ≡ device_at (sheet_in w₀) i
  pub slots : (i : ℕ) → i < d → cell w (slot_address 0 i) ≡ i

pub put_start : (w : List ℕ) → Putting w w 0
put_start w =
    record { within = omega arith; only = Only-refl (object_address 0) state_end w; forms = λ i h. absurd (omega arith); slots = λ i h. absurd (omega arith) }

module _ {w₀ w : List ℕ} {d : ℕ} (g : Putting w₀ w d) (whole : Whole w₀) where
  pub put_whole : Whole w
  put_whole = only_whole g.only (omega arith) whole

  same_devices : length (sheet_in w).devices ≡ length (sheet_in w₀).devices
  same_devices = ap (λ (s : Sheet). length s.devices) (sheet_kept w₀ w g.only)

  module _ {count : ℕ} (count-is : count ≡ cell w₀ device_count_at) where
    pub put_there : d < count → d < length (sheet_in w).devices
    put_there h = omega (arith, count-is, devices-length w₀, same_devices)

    pub put_next : d < count → {w' : List ℕ} → w' ≡ device_put w d → Putting w₀ w' (d + 1)
    put_next h e = subst (λ (x : List ℕ). Putting w₀ x (d + 1)) (sym e) next
      where
        small : d < 8
        small = omega (arith, put_there h, devices_few w put_whole)

        -- device d, or one before it
        pick : (i : ℕ) → i < d + 1 → Dec (i ≡ d) → (cell (device_put w d) (object_address i) ≡ device_at (sheet_in w₀) i) × (cell (device_put w d) (slot_address 0 i) ≡ i)
        pick i l (yes q) =
            subst (λ (k : ℕ). (cell (device_put w d) (object_address k) ≡ device_at (sheet_in w₀) k) × (cell (device_put w d) (slot_address 0 k) ≡ k)) (sym q)
            (put_form w d small put_whole.size ∙ ap (λ (s : Sheet). device_at s d) (sheet_kept w₀ w g.only), put_slot w d small put_whole.size)
        pick i l (no q) = (form_kept w d small i (omega (arith, q)) ∙ g.forms i (omega (arith, q)), slot_kept w d small i (omega (arith, q)) ∙ g.slots i (omega (arith, q)))

        next : Putting w₀ (device_put w d) (d + 1)
        next =
            record {
              within = omega (arith, put_there h, same_devices);
              only = Only-trans g.only (put_only w d small);
              forms = λ i l. (pick i l (ℕ_discrete i d)).0;
              slots = λ i l. (pick i l (ℕ_discrete i d)).1;
            }

    pub put_end : count ≤ d → DevicesPut w₀ w
    put_end h =
        record {
          equipped =
              record {
                forms = λ i l. g.forms i (omega (arith, same_devices, count-is, devices-length w₀)) ∙ sym (ap (λ (s : Sheet). device_at s i) (sheet_kept w₀ w g.only));
                slots = λ i l. g.slots i (omega (arith, same_devices, count-is, devices-length w₀));
              };
          only = g.only;
        }

-- THE STATE THAT THE BUFFER THEN HOLDS

module _ (w : List ℕ) (r : Ready w) where
  abbrev devices : ℕ
  devices = length (sheet_in w).devices

  -- a device has no kept value and no field
  no_kept : (d : ℕ) → d < devices → (kept_count (sheet_in w) (device_at (sheet_in w) d) ≡ 0) × (field_count (sheet_in w) (device_at (sheet_in w) d) ≡ 0)
  no_kept d h =
      let o = (start-Sound (sheet_in w) r.able.accepted.whole.sheet r.able.accepted.typed).store d (omega (arith, started-length (sheet_in w))) in
      let e = device_object (sheet_in w) r.able.accepted.whole.sheet r.able.accepted.typed d h in
      let p = subst (λ (x : Object). (length x.kept ≡ kept_count (sheet_in w) x.form) × (length x.fields ≡ field_count (sheet_in w) x.form)) e
      (Pairwise-length o.kept, Pairwise-length o.fields) in
      (sym p.0, sym p.1)

  object_is : (d : ℕ) → d < devices → object_in (sheet_in w) w d ≡ record { form = device_at (sheet_in w) d; kept = []; fields = [] }
  unfolding object_in tab
  object_is d h =
      ap (λ (f : ℕ). record { form = f; kept = tab (λ i. cell w (kept_address d i)) (kept_count (sheet_in w) f); fields = tab (λ i. cell w (field_address d i)) (field_count (sheet_in w) f) }) (r.equipped.forms d h)
      ∙ (λ j. record { form = device_at (sheet_in w) d; kept = tab (λ i. cell w (kept_address d i)) ((no_kept d h).0 j); fields = tab (λ i. cell w (field_address d i)) ((no_kept d h).1 j) })

  objects_are : objects_in (sheet_in w) w devices ≡ started (sheet_in w)
  objects_are =
      tab_is (object_in (sheet_in w) w) devices (started (sheet_in w)) no_object (started-length (sheet_in w))
      (λ d h. device_object (sheet_in w) r.able.accepted.whole.sheet r.able.accepted.typed d h ∙ sym (object_is d h))

  slots_are : slots_in w 0 devices ≡ tab (λ i. i) devices
  slots_are = tab_ext (λ v. cell w (slot_address 0 v)) (λ i. i) devices r.equipped.slots

  pub start_is : state_in (sheet_in w) w (start_top w) (start_tally (cell w device_count_at)) ≡ start (sheet_in w)
  unfolding below_in
  start_is =
      let count : cell w main_start_at + cell w main_count_at - cell w main_start_at ≡ cell w main_count_at = omega arith in
      let code : instrs_in w (cell w main_start_at) (cell w main_start_at + cell w main_count_at - cell w main_start_at) ≡ (sheet_in w).main = ap (instrs_in w (cell w main_start_at)) count ∙ main_is w in
      let d : cell w device_count_at ≡ devices = sym (devices-length w) in
      λ i. record {
        objects = (ap (objects_in (sheet_in w) w) d ∙ objects_are) i;
        top = record { own = none; slots = (ap (slots_in w 0) d ∙ slots_are) i; code = code i };
        below = [];
      }
