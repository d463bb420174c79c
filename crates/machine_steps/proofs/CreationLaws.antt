-- An object made in the buffer: the loop that keeps values and the loop that starts fields, each with its invariant and a law for
-- each turn; and what the started fields hold. Assumes nothing.
use Prim.Native.Nat.{ℕ, zero, suc, ◌+◌, ◌≤◌, ◌<◌}
use native.Mathlib.Omega.{arith}
use native.Mathlib.Numerals.{add-one}
use native.Mathlib.Decide.{dec_le}
use mathlib.Core.Path.{◌≡◌, refl, sym, ap, ◌∙◌, subst}
use mathlib.Core.List.{List, [], ◌∷◌}
use lib.ListN.{length, get_or, set, drop}
use lib.Seq.{get_or-set_same, get_or-set_other, drop-cons, drop-length}
use Rattle.lists.specs.In.{In, here, there}
use Rattle.lists.specs.Pairwise.{Pairwise, pair}
use Rattle.lists.proofs.TabLaws.{length-tab, get_or-tab}
use Rattle.sheet_rules.specs.declared.Member.{Member}
use Rattle.sheet_rules.specs.Sheet.{Part, init, body}
use Rattle.sheet_rules.specs.WellFormed.{PartOf}
use Rattle.machine_rules.specs.State.{initial_fields}
use Rattle.machine_rules.specs.Sound.{field_rows}
use Rattle.table.specs.Layout.{form_address, object_address, work_size, kept_address, field_address, slot_address}
use Rattle.table.specs.View.{cell, instrs_in, part_in, parts_in}
use Rattle.table.specs.Told.{new_slots, part_told}
use Rattle.table.specs.Only.{Only}
use Rattle.table.specs.declared.forms.PartPlace.{PartPlace}
use Rattle.table.proofs.ViewLaws.{Only-refl, Only-trans, Only-set, only→same, new_slots_same, part_in_same}
use Rattle.machine_steps.specs.Created.{Keepable, KeptFrom, PartStarts, FormStarts, start_put, start_count, fields_started}

-- THE KEPT VALUES

-- w is w₀ with the first k values kept
pub record Keeping (w₀ : List ℕ) (f p o count : ℕ) (w : List ℕ) (k : ℕ) : Type 0 where
  pub within : k ≤ count
  pub only : Only (kept_address o 0) (field_address o 0) w₀ w
  pub values : (i : ℕ) → i < k → cell w (kept_address o i) ≡ cell w₀ (slot_address f (get_or (new_slots w₀ p) i 0))

module _ (w₀ : List ℕ) (f p o count : ℕ) (a : Keepable w₀ f p o count) (w : List ℕ) (k : ℕ) (s : Keeping w₀ f p o count w k) where
  slots_are : new_slots w p ≡ new_slots w₀ p
  slots_are = new_slots_same w₀ w (only→same _ _ w₀ w (omega arith) s.only) p

  long : work_size ≤ length w
  long = omega (arith, s.only.size, a.size)

  -- what a turn asks: of the slot's number, of the slot, and of the kept value
  pub named_asks : k < count → (p < 1024) × (k < length (new_slots w p)) × (k < 8) × (work_size ≤ length w)
  named_asks l = (a.place, omega (arith, a.counted, ap length slots_are), omega (arith, a.few), long)

  pub value_asks : k < count → (n v : ℕ) → n ≡ get_or (new_slots w p) k 0 → v ≡ n → (f < 64) × (v < 44) × (work_size ≤ length w)
  value_asks l n v en ev =
      (a.frame, omega (arith, en, ev, ap (λ (xs : List ℕ). get_or xs k 0) slots_are, a.slots k (omega (arith, a.counted))), long)

  pub Keeping-next : k < count → (n v x : ℕ) (w' : List ℕ) → n ≡ get_or (new_slots w p) k 0 → v ≡ n → x ≡ cell w (slot_address f v) → w' ≡ set w (kept_address o k) x
      → Keeping w₀ f p o count w' (k + 1)
  Keeping-next l n v x w' en ev ex ew =
      record {
        within = omega arith;
        only = Only-trans s.only (subst (Only (kept_address o 0) (field_address o 0) w) (sym ew) (Only-set (kept_address o 0) (field_address o 0) w (kept_address o k) x (omega arith) (omega arith)));
        values = λ i h. ap (λ (y : List ℕ). cell y (kept_address o i)) ew ∙ each i h (dec_le (suc i) k);
      }
    where
      value : x ≡ cell w₀ (slot_address f (get_or (new_slots w₀ p) k 0))
      value =
          ex
          ∙ s.only.above (slot_address f v) (omega arith)
          ∙ ap (λ (y : ℕ). cell w₀ (slot_address f y)) (ev ∙ en ∙ ap (λ (xs : List ℕ). get_or xs k 0) slots_are)

      each : (i : ℕ) → i < k + 1 → Dec (suc i ≤ k) → cell (set w (kept_address o k) x) (kept_address o i) ≡ cell w₀ (slot_address f (get_or (new_slots w₀ p) i 0))
      each i h (yes q) = get_or-set_other w (kept_address o k) (kept_address o i) x 0 (let r = a.few in λ e. omega arith) ∙ s.values i q
      each i h (no q) =
          let e : i ≡ k = omega arith in
          ap (λ (y : ℕ). cell (set w (kept_address o k) x) (kept_address o y)) e
          ∙ get_or-set_same w (kept_address o k) x 0 (omega (arith, long))
          ∙ value
          ∙ ap (λ (y : ℕ). cell w₀ (slot_address f (get_or (new_slots w₀ p) y 0))) (sym e)

-- THE FIELDS

-- nothing but the object's fields is changed

pub part_only : (w : List ℕ) (o : ℕ) (p : Part) (i : ℕ) → Only (field_address o 0) (object_address o + 17) w (start_put w o p i)
part_only w o (init k) i = Only-set (field_address o 0) (object_address o + 17) w (field_address o i) _ (omega arith) (omega arith)
part_only w o (body is) i = Only-refl (field_address o 0) (object_address o + 17) w

pub started_only : (w : List ℕ) (o : ℕ) (ps : List Part) (i : ℕ) → Only (field_address o 0) (object_address o + 17) w (fields_started w o ps i)
unfolding fields_started
started_only w o [] i = Only-refl (field_address o 0) (object_address o + 17) w
started_only w o (p ∷ ps) i = Only-trans (part_only w o p i) (started_only (start_put w o p i) o ps (start_count p i))

-- w is w₀ with the first j parts done, i of them fields: doing the rest leaves what doing all of them does
pub record Starting (w₀ : List ℕ) (g o count : ℕ) (w : List ℕ) (i j : ℕ) : Type 0 where
  pub within : j ≤ count
  pub few : i ≤ j
  pub only : Only (field_address o 0) (object_address o + 17) w₀ w
  pub rest : fields_started w o (drop j (parts_in w₀ g count)) i ≡ fields_started w₀ o (parts_in w₀ g count) 0

fields_most : (p : Part) (j i : ℕ) → i ≤ j → start_count p i ≤ j + 1
fields_most (init k) j i h = omega arith
fields_most (body is) j i h = omega arith

module _ (w₀ : List ℕ) (g o count : ℕ) (a : FormStarts w₀ g o) (counted : count ≡ cell w₀ (form_address g + 2)) (w : List ℕ) (i j : ℕ) (s : Starting w₀ g o count w i j) where
  the_part : part_in w g j ≡ part_in w₀ g j
  the_part = part_in_same w₀ w (only→same _ _ w₀ w (omega arith) s.only) g j

  pub starting_asks : j < count → PartStarts w g o j i
  starting_asks l =
      record {
        form = a.form;
        object = a.object;
        part = omega (arith, a.parts);
        field = omega (arith, a.parts, s.few);
        kept = λ k e. a.kept j k (omega arith) (sym the_part ∙ e);
        size = omega (arith, s.only.size, a.size);
      }

  pub Starting-next : (i' : ℕ) (w' : List ℕ) → j < count → i' ≡ start_count (part_in w g j) i → w' ≡ start_put w o (part_in w g j) i → Starting w₀ g o count w' i' (j + 1)
  unfolding fields_started
  Starting-next i' w' l ei ew =
      subst (λ (x : List ℕ). Starting w₀ g o count x i' (j + 1)) (sym ew)
      (subst (λ (x : ℕ). Starting w₀ g o count (start_put w o (part_in w g j) i) x (j + 1)) (sym ei) one_more)
    where
      here-part : part_in w g j ≡ get_or (parts_in w₀ g count) j (init 0)
      here-part = the_part ∙ sym (get_or-tab (part_in w₀ g) count j (init 0) l)

      one_more : Starting w₀ g o count (start_put w o (part_in w g j) i) (start_count (part_in w g j) i) (j + 1)
      one_more =
          record {
            within = omega arith;
            few = fields_most (part_in w g j) j i s.few;
            only = Only-trans s.only (part_only w o (part_in w g j) i);
            rest =
                ap (λ (k : ℕ). fields_started (start_put w o (part_in w g j) i) o (drop k (parts_in w₀ g count)) (start_count (part_in w g j) i)) (add-one j)
                ∙ ap (λ (x : Part). fields_started (start_put w o x i) o (drop (suc j) (parts_in w₀ g count)) (start_count x i)) here-part
                ∙ ap (λ (xs : List Part). fields_started w o xs i) (sym (drop-cons (parts_in w₀ g count) j (init 0) (omega (arith, length-tab (part_in w₀ g) count))))
                ∙ s.rest;
          }

  pub starting_end : count ≤ j → w ≡ fields_started w₀ o (parts_in w₀ g (cell w₀ (form_address g + 2))) 0
  unfolding fields_started
  starting_end l =
      let e : j ≡ length (parts_in w₀ g count) = omega (arith, length-tab (part_in w₀ g) count, s.within) in
      ap (λ (xs : List Part). fields_started w o xs i) (sym (ap (λ (k : ℕ). drop k (parts_in w₀ g count)) e ∙ drop-length (parts_in w₀ g count)))
      ∙ s.rest
      ∙ ap (λ (n : ℕ). fields_started w₀ o (parts_in w₀ g n) 0) counted

-- there is a first value for each field of the row, and so at most one for each part

pub starts_few : (ps : List Part) (kept : List ℕ) → length (initial_fields ps kept) ≤ length ps
unfolding initial_fields
starts_few [] kept = omega arith
starts_few (init k ∷ ps) kept = let h = starts_few ps kept in omega arith
starts_few (body is ∷ ps) kept = let h = starts_few ps kept in omega arith

pub starts_count : {forms keeps : ℕ} {ms : List Member} {ps : List Part} (kept : List ℕ) → Pairwise (PartOf forms keeps) ms ps → length (initial_fields ps kept) ≡ length (field_rows ms)
unfolding initial_fields field_rows
starts_count kept Pairwise.none = refl
starts_count kept (pair (PartOf.field h) p) = ap suc (starts_count kept p)
starts_count kept (pair (PartOf.method h) p) = starts_count kept p

-- the fields hold their first values, where the object's kept values are these

module _ (o : ℕ) (kept : List ℕ) where
  -- a field before those that are started stays
  started_early : (w : List ℕ) (ps : List Part) (i m : ℕ) → m < i → i + length (initial_fields ps kept) ≤ 8
      → cell (fields_started w o ps i) (field_address o m) ≡ cell w (field_address o m)
  unfolding fields_started initial_fields
  started_early w [] i m h l = refl
  started_early w (init k ∷ ps) i m h l =
      started_early (start_put w o (init k) i) ps (i + 1) m (omega arith) (omega arith)
      ∙ get_or-set_other w (field_address o i) (field_address o m) _ 0 (λ e. omega arith)
  started_early w (body is ∷ ps) i m h l = started_early w ps i m h l

  pub started_at : (w : List ℕ) (ps : List Part) (i : ℕ) → work_size ≤ length w → ((k : ℕ) → k < length kept → cell w (kept_address o k) ≡ get_or kept k 0)
      → ((k : ℕ) → In (init k) ps → k < length kept) → i + length (initial_fields ps kept) ≤ 8
      → (m : ℕ) → m < length (initial_fields ps kept) → cell (fields_started w o ps i) (field_address o (i + m)) ≡ get_or (initial_fields ps kept) m 0
  unfolding fields_started initial_fields
  started_at w [] i z holds named l m h = absurd (omega arith)
  started_at w (init k ∷ ps) i z holds named l zero h =
      let e : i + 0 ≡ i = omega arith in
      ap (λ (x : ℕ). cell (fields_started (start_put w o (init k) i) o ps (i + 1)) (field_address o x)) e
      ∙ started_early (start_put w o (init k) i) ps (i + 1) i (omega arith) (omega arith)
      ∙ get_or-set_same w (field_address o i) _ 0 (omega arith)
      ∙ holds k (named k (here refl))
  started_at w (init k ∷ ps) i z holds named l (suc m) h =
      let e : i + suc m ≡ i + 1 + m = omega arith in
      ap (λ (x : ℕ). cell (fields_started (start_put w o (init k) i) o ps (i + 1)) (field_address o x)) e
      ∙ started_at (start_put w o (init k) i) ps (i + 1) (omega (arith, (part_only w o (init k) i).size))
      (λ j q. (part_only w o (init k) i).below (kept_address o j) (omega arith) ∙ holds j q)
      (λ j q. named j (there q)) (omega arith) m (omega arith)
  started_at w (body is ∷ ps) i z holds named l m h = started_at w ps i z holds (λ j q. named j (there q)) l m h
