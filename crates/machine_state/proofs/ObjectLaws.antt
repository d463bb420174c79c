-- One object changed: a field that is put, and an object that is made. Assumes nothing.
use Prim.Native.Nat.{ℕ, suc, ◌+◌, ◌≤◌, ◌<◌}
use native.Mathlib.Omega.{arith}
use native.Mathlib.Decide.{dec_le}
use mathlib.Core.Path.{◌≡◌, sym, ap, ◌∙◌}
use mathlib.Core.List.{List, [], ◌∷◌, ◌++◌}
use lib.ListN.{length, get_or, set}
use lib.Seq.{get_or-set_same, get_or-set_other}
use Rattle.lists.specs.Tab.{tab}
use Rattle.lists.proofs.TabLaws.{tab-suc, tab_ext, tab-set, tab_is}
use Rattle.sheet_rules.specs.Sheet.{Sheet, form_at}
use Rattle.machine_rules.specs.State.{Object, initial_fields, made}
use Rattle.machine_rules.specs.Step.{with_field}
use Rattle.table.specs.Layout.{object_address, work_size, kept_address, field_address}
use Rattle.table.specs.View.{cell}
use Rattle.table.specs.Only.{Only}
use Rattle.table.proofs.ViewLaws.{SameFrom, Only-set}
use Rattle.machine_state.specs.Held.{kept_count, field_count, object_in, objects_in}
use Rattle.machine_state.proofs.HeldLaws.{object_same}

-- a buffer that is changed in object o's block alone has its other objects as they were
pub object_other : (s : Sheet) (w w' : List ℕ) (o j : ℕ) → Only (object_address o) (object_address o + 17) w w' → o < 256 → j < 256 → (j ≡ o → ⊥)
    → object_in s w' j ≡ object_in s w j
object_other s w w' o j only p q d = object_same s w w' j each
  where
    each : SameFrom (object_address j) 17 w w'
    each i l u = go (dec_le (suc j) o)
      where
        go : Dec (suc j ≤ o) → cell w' i ≡ cell w i
        go (yes r) = only.below i (omega arith)
        go (no r) = let m : o < j = omega arith in only.above i (omega arith)

-- a field is put
module _ (s : Sheet) (w : List ℕ) (o i v : ℕ) (p : o < 256) (inside : i < field_count s (cell w (object_address o))) (few : field_count s (cell w (object_address o)) ≤ 8) (size : work_size ≤ length w) where
  other : (j : ℕ) → (j ≡ field_address o i → ⊥) → cell (set w (field_address o i) v) j ≡ cell w j
  other j d = get_or-set_other w (field_address o i) j v 0 d

  here : cell (set w (field_address o i) v) (field_address o i) ≡ v
  here = get_or-set_same w (field_address o i) v 0 (omega arith)

  field_there : object_in s (set w (field_address o i) v) o ≡ with_field (object_in s w o) i v
  unfolding object_in
  field_there = λ x. record { form = form x; kept = kept x; fields = fields x }
    where
      form : cell (set w (field_address o i) v) (object_address o) ≡ cell w (object_address o)
      form = other (object_address o) (omega arith)

      kept : tab (λ j. cell (set w (field_address o i) v) (kept_address o j)) (kept_count s (cell (set w (field_address o i) v) (object_address o))) ≡ tab (λ j. cell w (kept_address o j)) (kept_count s (cell w (object_address o)))
      kept =
          ap (λ (f : ℕ). tab (λ j. cell (set w (field_address o i) v) (kept_address o j)) (kept_count s f)) form
          ∙ tab_ext (λ j. cell (set w (field_address o i) v) (kept_address o j)) (λ j. cell w (kept_address o j)) (kept_count s (cell w (object_address o))) (λ j k. other (kept_address o j) (omega arith))

      fields : tab (λ j. cell (set w (field_address o i) v) (field_address o j)) (field_count s (cell (set w (field_address o i) v) (object_address o)))
          ≡ set (tab (λ j. cell w (field_address o j)) (field_count s (cell w (object_address o)))) i v
      fields =
          ap (λ (f : ℕ). tab (λ j. cell (set w (field_address o i) v) (field_address o j)) (field_count s f)) form
          ∙ tab-set (λ j. cell w (field_address o j)) (λ j. cell (set w (field_address o i) v) (field_address o j)) (field_count s (cell w (object_address o))) i
          (λ j k d. other (field_address o j) (λ e. d (clear j k e))) inside
          ∙ ap (set (tab (λ j. cell w (field_address o j)) (field_count s (cell w (object_address o)))) i) here
        where
          clear : (j : ℕ) → j < field_count s (cell w (object_address o)) → field_address o j ≡ field_address o i → j ≡ i
          clear j k e = omega arith

  pub field_only : Only (object_address o) (object_address o + 17) w (set w (field_address o i) v)
  field_only = Only-set (object_address o) (object_address o + 17) w (field_address o i) v (omega arith) (omega arith)

  pub field_put : (n : ℕ) → o < n → n ≤ 256 → objects_in s (set w (field_address o i) v) n ≡ set (objects_in s w n) o (with_field (object_in s w o) i v)
  field_put n h l =
      tab-set (object_in s w) (object_in s (set w (field_address o i) v)) n o
      (λ j k d. object_other s w (set w (field_address o i) v) o j field_only p (omega arith) d) h
      ∙ ap (set (objects_in s w n) o) field_there

-- an object is made

pub objects_more : (s : Sheet) (w w' : List ℕ) (n : ℕ) (x : Object) → n < 256 → Only (object_address n) (object_address n + 17) w w' → object_in s w' n ≡ x
    → objects_in s w' (suc n) ≡ objects_in s w n ++ (x ∷ [])
objects_more s w w' n x h only e =
    tab-suc (object_in s w') n
    ∙ (λ i. tab_ext (object_in s w') (object_in s w) n (λ j k. object_other s w w' n j only h (omega arith) (omega arith)) i ++ (e i ∷ []))

-- the numbers of a made object
pub record MadeAt (s : Sheet) (w : List ℕ) (o f : ℕ) (kept : List ℕ) : Type 0 where
  pub form : cell w (object_address o) ≡ f
  pub count : length kept ≡ kept_count s f
  pub values : (i : ℕ) → i < length kept → cell w (kept_address o i) ≡ get_or kept i 0
  pub fields : length (initial_fields (form_at s f).parts kept) ≡ field_count s f
  pub starts : (i : ℕ) → i < length (initial_fields (form_at s f).parts kept) → cell w (field_address o i) ≡ get_or (initial_fields (form_at s f).parts kept) i 0

pub made_there : (s : Sheet) (w : List ℕ) (o f : ℕ) (kept : List ℕ) → MadeAt s w o f kept → object_in s w o ≡ made s f kept
unfolding object_in
made_there s w o f kept m =
    λ x. record {
      form = m.form x;
      kept = (ap (λ (g : ℕ). tab (λ i. cell w (kept_address o i)) (kept_count s g)) m.form ∙ tab_is (λ i. cell w (kept_address o i)) (kept_count s f) kept 0 m.count (λ i k. sym (m.values i (omega (arith, m.count))))) x;
      fields = (ap (λ (g : ℕ). tab (λ i. cell w (field_address o i)) (field_count s g)) m.form ∙ tab_is (λ i. cell w (field_address o i)) (field_count s f) (initial_fields (form_at s f).parts kept) 0 m.fields (λ i k. sym (m.starts i (omega (arith, m.fields))))) x;
    }
