-- The lines of the devices: a law for each turn of their loop, and for none. Assumes nothing.
use Prim.Native.Nat.{ℕ, suc, ◌+◌, ◌≤◌, ◌<◌}
use native.Mathlib.Omega.{arith}
use native.Mathlib.Decide.{ℕ_discrete}
use native.Mathlib.Numerals.{add-one}
use mathlib.Core.Path.{◌≡◌, refl, sym, ap, ◌∙◌, subst}
use mathlib.Core.Bool.{Bool, true, false, not}
use mathlib.Core.List.{List, [], ◌∷◌, map}
use lib.ListN.{length, drop, set, drop_of_length-le, length-map}
use lib.Seq.{drop-cons, get_or-set_same, get_or-set_other}
use borrow.Author.Tests.{not-true, not-false}
use Rattle.lists.specs.Tab.{tab}
use Rattle.lists.proofs.TabLaws.{tab_ext, map-tab}
use Rattle.lists.proofs.Tests.{clash}
use Rattle.sheet_rules.specs.declared.Reason.TheVariants.{WrongDevice}
use Rattle.sheet_rules.specs.Sheet.{Sheet, form_at, device_at}
use Rattle.type_rules.specs.SlotRows.{main_rows}
use Rattle.type_rules.specs.Typing.{unless, is_device, device_fault, LineJudge, devices_faults}
use Rattle.table.specs.Layout.{device_count_at, slot_row_address, slot_rows_end}
use Rattle.table.specs.Told.{slot_rows_in}
use Rattle.table.specs.View.{cell, sheet_in}
use Rattle.table.specs.Whole.{Whole}
use Rattle.table.proofs.ViewLaws.{Only-refl, Only-trans, Only-set}
use Rattle.table.proofs.SheetLaws.{devices-length, devices_few}
use Rattle.std.specs.declared.result.Result.{Result}
use Rattle.std.specs.declared.result.Result.TheVariants.{Ok}
use Rattle.sheet_rules.specs.declared.Refusal.{Refusal}
use Rattle.sheet_rules.specs.Answers.{turned_away}
use Rattle.code_typing.specs.Walk.{walk}
use Rattle.code_typing.specs.Told.{judge_in, OnlySlots, CodeJudged}
use Rattle.code_typing.proofs.WalkLaws.{walk_none, walk_good, walk_bad}
use Rattle.code_typing.proofs.CodeLaws.{slots_sheet, slots_whole}
use Rattle.typing.specs.Told.{device_faults_in, devices_faults_in}

-- the devices' lines are nine at the most
pub devices_nine : (judge : LineJudge) (fs : List ℕ) → length fs ≤ 8 → length (devices_faults judge fs) ≤ 9
unfolding devices_faults
devices_nine judge [] h = omega arith
devices_nine judge (f ∷ fs) h = omega (arith, length-map fs judge.of_device)

-- the row of device d
abbrev row_in : List ℕ → ℕ → ℕ
row_in w d = (form_at (sheet_in w) (device_at (sheet_in w) d)).row

-- where the loop stands: the lines before number d passed, and their slots have their rows
pub record Each (first : ℕ) (w₀ w : List ℕ) (d : ℕ) : Type 0 where
  pub within : d ≤ length (sheet_in w₀).devices
  pub only : OnlySlots w₀ w
  pub rows : (i : ℕ) → i < d → cell w (slot_row_address i) ≡ row_in w₀ i
  pub same : walk (first + d) (map (device_fault (sheet_in w₀)) (drop d (sheet_in w₀).devices)) ≡ walk first (device_faults_in w₀)

pub Each-start : {first : ℕ} {w : List ℕ} → Each first w w 0
Each-start {first} {w} =
    record {
      within = omega arith;
      only = Only-refl (slot_row_address 0) slot_rows_end w;
      rows = λ i h. absurd (omega arith);
      same = ap (λ (n : ℕ). walk n (device_faults_in w)) (omega arith);
    }

module _ {first : ℕ} {w₀ w : List ℕ} {d : ℕ} (g : Each first w₀ w d) (h : Whole w₀) where
  abbrev line : ℕ
  line = first + d

  pub each_whole : Whole w
  each_whole = slots_whole g.only h

  abbrev same_sheet : sheet_in w ≡ sheet_in w₀
  same_sheet = slots_sheet g.only

  module _ {count : ℕ} (count-is : count ≡ cell w₀ device_count_at) where
    pub each_there : d < count → d < length (sheet_in w).devices
    each_there l = omega (arith, count-is, devices-length w₀, ap (λ (s : Sheet). length s.devices) same_sheet)

    pub each_small : d < count → d < 8
    each_small l = omega (arith, each_there l, devices_few w each_whole)

    pub each_end : count ≤ d → CodeJudged (device_faults_in w₀) (main_rows (sheet_in w₀)) first w₀ w (Ok (first + count))
    each_end l =
        record {
          lines = record { told = ap Ok at_end ∙ sym (walk_none line) ∙ sym (ap (λ (fs : List ℕ). walk line (map (device_fault (sheet_in w₀)) fs)) (drop_of_length-le (sheet_in w₀).devices past)) ∙ g.same; only = g.only };
          slots = λ n e.
              ap (slot_rows_in w) (length-map (sheet_in w₀).devices (λ f. (form_at (sheet_in w₀) f).row))
              ∙ tab_ext (λ v. cell w (slot_row_address v)) (row_in w₀) (length (sheet_in w₀).devices) (λ i k. g.rows i (omega (arith, past)))
              ∙ sym (map-tab (λ f. (form_at (sheet_in w₀) f).row) (sheet_in w₀).devices 0);
        }
      where
        past : length (sheet_in w₀).devices ≤ d
        past = omega (arith, count-is, devices-length w₀)

        at_end : first + count ≡ line
        at_end = omega (arith, g.within, count-is, devices-length w₀)

    -- device d may be read in the sheet of the buffer as it is
    pub each_asks : d < count → {v : List ℕ} → v ≡ w → d < length (sheet_in v).devices
    each_asks l e = omega (arith, each_there l, ap (λ (x : List ℕ). length (sheet_in x).devices) e)

    module _ (l : d < count) {v : List ℕ} (e : v ≡ w) {form : ℕ} (form-is : form ≡ device_at (sheet_in v) d) {b : Bool} (told : b ≡ is_device (sheet_in v) form) where
      as_first : sheet_in v ≡ sheet_in w₀
      as_first = ap sheet_in e ∙ same_sheet

      -- the line in hand, and those after it
      here : walk line (unless b WrongDevice ∷ map (device_fault (sheet_in w₀)) (drop (suc d) (sheet_in w₀).devices)) ≡ walk first (device_faults_in w₀)
      here =
          ap (λ (x : Bool). walk line (unless x WrongDevice ∷ map (device_fault (sheet_in w₀)) (drop (suc d) (sheet_in w₀).devices)))
          (told ∙ ap (is_device (sheet_in v)) form-is ∙ (λ i. is_device (as_first i) (device_at (as_first i) d)))
          ∙ sym (ap (λ (fs : List ℕ). walk line (map (device_fault (sheet_in w₀)) fs)) (drop-cons (sheet_in w₀).devices d 0 (omega (arith, count-is, devices-length w₀))))
          ∙ g.same

      pub each_stop : not b ≡ true → CodeJudged (device_faults_in w₀) (main_rows (sheet_in w₀)) first w₀ w (turned_away WrongDevice line)
      each_stop wrong =
          record {
            lines =
                record {
                  told =
                      walk_bad line WrongDevice (map (device_fault (sheet_in w₀)) (drop (suc d) (sheet_in w₀).devices))
                      ∙ ap (λ (x : Bool). walk line (unless x WrongDevice ∷ map (device_fault (sheet_in w₀)) (drop (suc d) (sheet_in w₀).devices))) (sym (not-true b wrong))
                      ∙ here;
                  only = g.only;
                };
            slots = λ n c. no_way n c;
          }
        where
          no_way : (n : ℕ) {A : Type 0} → turned_away WrongDevice line ≡ Ok n → A
          no_way n c = clash (cc)

      pub Each-next : not b ≡ false → {row : ℕ} → row ≡ (form_at (sheet_in v) form).row → {w' : List ℕ} → w' ≡ set w (slot_row_address d) row → Each first w₀ w' (d + 1)
      Each-next right {row} row_is {w'} stored =
          record {
            within = omega (arith, each_there l, ap (λ (s : Sheet). length s.devices) same_sheet);
            only = Only-trans g.only (subst (OnlySlots w) (sym stored) (Only-set (slot_row_address 0) slot_rows_end w (slot_row_address d) row (omega arith) (omega (arith, each_small l))));
            rows = λ i k. pick i k (ℕ_discrete i d);
            same =
                ap (λ (n : ℕ). walk n (map (device_fault (sheet_in w₀)) (drop (d + 1) (sheet_in w₀).devices))) (omega arith)
                ∙ walk_good line (map (device_fault (sheet_in w₀)) (drop (d + 1) (sheet_in w₀).devices))
                ∙ (λ i. walk line (unless (sym (not-false b right) i) WrongDevice ∷ map (device_fault (sheet_in w₀)) (drop (add-one d i) (sheet_in w₀).devices)))
                ∙ here;
          }
        where
          row-there : row ≡ row_in w₀ d
          row-there = row_is ∙ ap (λ (f : ℕ). (form_at (sheet_in v) f).row) form-is ∙ (λ i. (form_at (as_first i) (device_at (as_first i) d)).row)

          -- device d, or one before it
          pick : (i : ℕ) → i < d + 1 → Dec (i ≡ d) → cell w' (slot_row_address i) ≡ row_in w₀ i
          pick i k (yes q) =
              subst (λ (j : ℕ). cell w' (slot_row_address j) ≡ row_in w₀ j) (sym q)
              (ap (λ (x : List ℕ). cell x (slot_row_address d)) stored ∙ get_or-set_same w (slot_row_address d) row 0 (omega (arith, each_small l, each_whole.size)) ∙ row-there)
          pick i k (no q) =
              ap (λ (x : List ℕ). cell x (slot_row_address i)) stored
              ∙ get_or-set_other w (slot_row_address d) (slot_row_address i) row 0 (λ c. (let s = each_small l in omega (arith, q)))
              ∙ g.rows i (omega (arith, q))

-- the `devices` line before them, and a sheet without devices

some_lines : (line : ℕ) (judge : LineJudge) (fs : List ℕ) → (length fs ≡ 0 → ⊥) → walk (line + 1) (map judge.of_device fs) ≡ walk line (devices_faults judge fs)
unfolding devices_faults
some_lines n judge [] ne = absurd (ne refl)
some_lines n judge (f ∷ fs) ne = walk_good n (map judge.of_device (f ∷ fs))

module _ (w : List ℕ) (line : ℕ) {c : ℕ} (e : c ≡ cell w device_count_at) where
  pub devices_judged : (c ≡ 0 → ⊥) → {w' : List ℕ} {r : Result ℕ Refusal} → CodeJudged (device_faults_in w) (main_rows (sheet_in w)) (line + 1) w w' r
      → CodeJudged (devices_faults_in w) (main_rows (sheet_in w)) line w w' r
  devices_judged ne k =
      record {
        lines = record { told = k.lines.told ∙ some_lines line (judge_in w) (sheet_in w).devices (λ z. ne (e ∙ sym (devices-length w) ∙ z)); only = k.lines.only };
        slots = k.slots;
      }

  pub devices_none : c ≡ 0 → CodeJudged (devices_faults_in w) (main_rows (sheet_in w)) line w w (Ok line)
  unfolding devices_faults tab
  devices_none z =
      let none : (sheet_in w).devices ≡ [] = drop_of_length-le (sheet_in w).devices {i = 0} (omega (arith, devices-length w, e)) in
      record {
        lines = record { told = sym (walk_none line) ∙ ap (λ (fs : List ℕ). walk line (devices_faults (judge_in w) fs)) (sym none); only = Only-refl (slot_row_address 0) slot_rows_end w };
        slots = λ n x. subst (λ (fs : List ℕ). slot_rows_in w (length (map (λ f. (form_at (sheet_in w) f).row) fs)) ≡ map (λ f. (form_at (sheet_in w) f).row) fs) (sym none) refl;
      }
