-- Laws of Only and of the view: what depends on which numbers of the buffer. Assumes nothing.
use Prim.Native.Nat.{ℕ, suc, ◌+◌, ◌≤◌, ◌<◌}
use native.Mathlib.Omega.{arith}
use native.Mathlib.Decide.{dec_le}
use mathlib.Core.Path.{◌≡◌, refl, ap, ap₂, ◌∙◌}
use mathlib.Core.Bool.{Bool, true, false, cond}
use mathlib.Core.List.{List}
use lib.Dec.{eqb}
use lib.ListN.{set, take, drop, length-set}
use lib.Seq.{get_or-set_other}
use Rattle.lists.proofs.TabLaws.{tab_ext}
use Rattle.sheet_rules.specs.declared.Member.{Member}
use Rattle.sheet_rules.specs.Sheet.{Row, init, body}
use Rattle.sheet_rules.specs.RowLines.{kind_of}
use Rattle.table.specs.Layout.{row_count_at, form_count_at, main_start_at, main_count_at, device_count_at, device_address, row_address, member_address, form_address, keep_address, part_address, instr_address, number_count_address, number_address, table_end}
use Rattle.table.specs.View.{cell, member_from, member_in, members_in, row_in, rows_in, numbers_in, instr_from, instr_in, instrs_in, part_from, part_in, keeps_in, parts_in, form_in, forms_in, devices_in, sheet_in}
use Rattle.table.specs.Only.{Only}
use Rattle.table.specs.Told.{new_slots}

-- Only: reflexive, composes, widens, and holds of a number that is set

pub Only-refl : (lo hi : ℕ) (w : List ℕ) → Only lo hi w w
Only-refl lo hi w = record { size = refl; below = λ i h. refl; above = λ i h. refl }

pub Only-trans : {lo hi : ℕ} {w w' w'' : List ℕ} → Only lo hi w w' → Only lo hi w' w'' → Only lo hi w w''
Only-trans p q =
    record {
      size = q.size ∙ p.size;
      below = λ i h. q.below i h ∙ p.below i h;
      above = λ i h. q.above i h ∙ p.above i h;
    }

pub Only-widen : {lo hi lo' hi' : ℕ} {w w' : List ℕ} → lo' ≤ lo → hi ≤ hi' → Only lo hi w w' → Only lo' hi' w w'
Only-widen l h p =
    record { size = p.size; below = λ i k. p.below i (omega arith); above = λ i k. p.above i (omega arith) }

pub Only-set : (lo hi : ℕ) (w : List ℕ) (i v : ℕ) → lo ≤ i → i < hi → Only lo hi w (set w i v)
Only-set lo hi w i v l h =
    record {
      size = length-set w i v;
      below = λ j k. get_or-set_other w i j v 0 (omega arith);
      above = λ j k. get_or-set_other w i j v 0 (omega arith);
    }

-- a row depends on the 36 numbers of its block alone

row_of : ℕ → List Member → Row
row_of k ms = record { kind = kind_of k; members = ms }

-- two buffers have the same numbers in the n places from a place on
abbrev pub SameFrom : ℕ → ℕ → List ℕ → List ℕ → Type 0
SameFrom base n w w' = (i : ℕ) → base ≤ i → i < base + n → cell w' i ≡ cell w i

pub member_same : (w w' : List ℕ) (i j : ℕ) → SameFrom (row_address i) 36 w w' → member_in w' i j ≡ member_in w i j
unfolding member_in
member_same w w' i j h =
    ap₂ (λ (t n : ℕ). member_from t n (cell w' (member_address i j + 2)) (cell w' (member_address i j + 3)))
    (h (member_address i j) (omega arith) (omega arith)) (h (member_address i j + 1) (omega arith) (omega arith))
    ∙ ap₂ (λ (a b : ℕ). member_from (cell w (member_address i j)) (cell w (member_address i j + 1)) a b)
    (h (member_address i j + 2) (omega arith) (omega arith)) (h (member_address i j + 3) (omega arith) (omega arith))

pub row_same : (w w' : List ℕ) (i : ℕ) → SameFrom (row_address i) 36 w w' → row_in w' i ≡ row_in w i
unfolding row_in row_of
row_same w w' i h =
    ap₂ row_of (h (row_address i) (omega arith) (omega arith))
    (ap (λ (n : ℕ). members_in w' i n) (h (row_address i + 1) (omega arith) (omega arith))
    ∙ tab_ext (member_in w' i) (member_in w i) (cell w (row_address i + 1)) (λ j k. member_same w w' i j h))

-- an instruction depends on its eleven numbers alone

pub instr_same : (w w' : List ℕ) (p : ℕ) → SameFrom (instr_address p) 11 w w' → instr_in w' p ≡ instr_in w p
unfolding instr_in
instr_same w w' p h =
    ap₂ (λ (c n : ℕ). instr_from c n (numbers_in w' p)) (h (instr_address p) (omega arith) (omega arith)) (h (instr_address p + 1) (omega arith) (omega arith))
    ∙ ap (instr_from (cell w (instr_address p)) (cell w (instr_address p + 1)))
    (tab_ext (λ k. cell w' (instr_address p + (2 + k))) (λ k. cell w (instr_address p + (2 + k))) 9
    (λ k u. h (instr_address p + (2 + k)) (omega arith) (omega arith)))

-- a part depends on its three numbers, and a body on its instructions

pub part_same : (w w' : List ℕ) (f j : ℕ) → SameFrom (part_address f j) 3 w w'
    → ((k : ℕ) → cell w (part_address f j + 1) ≤ k → k < cell w (part_address f j + 1) + cell w (part_address f j + 2) → eqb (cell w (part_address f j)) 0 ≡ false → instr_in w' k ≡ instr_in w k)
    → part_in w' f j ≡ part_in w f j
unfolding part_in
part_same w w' f j h is =
    ap₂ (λ (t a : ℕ). part_from w' t a (cell w' (part_address f j + 2))) (h (part_address f j) (omega arith) (omega arith)) (h (part_address f j + 1) (omega arith) (omega arith))
    ∙ ap (λ (b : ℕ). part_from w' (cell w (part_address f j)) (cell w (part_address f j + 1)) b) (h (part_address f j + 2) (omega arith) (omega arith))
    ∙ go (eqb (cell w (part_address f j)) 0) (cell w (part_address f j + 1)) (cell w (part_address f j + 2)) is
  where
    go : (t : Bool) (a b : ℕ) → ((k : ℕ) → a ≤ k → k < a + b → t ≡ false → instr_in w' k ≡ instr_in w k)
        → cond t (init a) (body (instrs_in w' a b)) ≡ cond t (init a) (body (instrs_in w a b))
    go true a b g = refl
    go false a b g = ap body (tab_ext (λ k. instr_in w' (a + k)) (λ k. instr_in w (a + k)) b (λ k u. g (a + k) (omega arith) (omega arith) refl))

-- a form depends on its heading, its kept rows and its parts

pub form_same : (w w' : List ℕ) (f : ℕ) → SameFrom (form_address f) 11 w w'
    → ((j : ℕ) → j < cell w (form_address f + 2) → part_in w' f j ≡ part_in w f j) → form_in w' f ≡ form_in w f
unfolding form_in
form_same w w' f h ps = λ p. record { row = h (form_address f) (omega arith) (omega arith) p; keeps = keeps p; parts = parts p }
  where
    keeps : keeps_in w' f (cell w' (form_address f + 1)) ≡ keeps_in w f (cell w (form_address f + 1))
    keeps =
        ap (λ (n : ℕ). keeps_in w' f n) (h (form_address f + 1) (omega arith) (omega arith))
        ∙ tab_ext (λ j. cell w' (keep_address f j)) (λ j. cell w (keep_address f j)) (cell w (form_address f + 1)) (λ j k. h (keep_address f j) (omega arith) (omega arith))

    parts : parts_in w' f (cell w' (form_address f + 2)) ≡ parts_in w f (cell w (form_address f + 2))
    parts =
        ap (λ (n : ℕ). parts_in w' f n) (h (form_address f + 2) (omega arith) (omega arith))
        ∙ tab_ext (part_in w' f) (part_in w f) (cell w (form_address f + 2)) ps

-- a buffer that is changed in row i's block alone has its other rows as they were

pub row_other : (w w' : List ℕ) (i j : ℕ) → Only (row_address i) (row_address i + 36) w w' → i < 64 → j < 64 → (j ≡ i → ⊥) → row_in w' j ≡ row_in w j
row_other w w' i j o p q d = row_same w w' j each
  where
    each : SameFrom (row_address j) 36 w w'
    each k l u = go (dec_le (suc j) i)
      where
        go : Dec (suc j ≤ i) → cell w' k ≡ cell w k
        go (yes r) = o.below k (omega arith)
        go (no r) = let s : i < j = omega arith in o.above k (omega arith)

-- the sheet depends on the numbers below the table's end alone

-- two buffers have the same numbers below the table's end
abbrev pub SameTable : List ℕ → List ℕ → Type 0
SameTable w w' = (i : ℕ) → i < table_end → cell w' i ≡ cell w i

pub only→same : (lo hi : ℕ) (w w' : List ℕ) → table_end ≤ lo → Only lo hi w w' → SameTable w w'
only→same lo hi w w' l o i h = o.below i (omega arith)

module _ (w w' : List ℕ) (h : SameTable w w') where
  pub row_in_same : (i : ℕ) → row_in w' i ≡ row_in w i
  row_in_same i = row_same w w' i (λ k l u. h k (omega arith))

  pub rows_in_same : (n : ℕ) → rows_in w' n ≡ rows_in w n
  rows_in_same n = tab_ext (row_in w') (row_in w) n (λ i k. row_in_same i)

  pub instr_in_same : (p : ℕ) → instr_in w' p ≡ instr_in w p
  instr_in_same p = instr_same w w' p (λ k l u. h k (omega arith))

  pub instrs_in_same : (p n : ℕ) → instrs_in w' p n ≡ instrs_in w p n
  instrs_in_same p n = tab_ext (λ k. instr_in w' (p + k)) (λ k. instr_in w (p + k)) n (λ k u. instr_in_same (p + k))

  -- the slots that a `new` names
  pub new_slots_same : (p : ℕ) → new_slots w' p ≡ new_slots w p
  unfolding new_slots
  new_slots_same p =
      ap₂ (λ (n : ℕ) (ns : List ℕ). drop 1 (take n ns)) (h (number_count_address p) (omega arith))
      (tab_ext (λ k. cell w' (number_address p k)) (λ k. cell w (number_address p k)) 9 (λ k u. h (number_address p k) (omega arith)))

  pub part_in_same : (f j : ℕ) → part_in w' f j ≡ part_in w f j
  part_in_same f j = part_same w w' f j (λ k l u. h k (omega arith)) (λ k l u d. instr_in_same k)

  pub form_in_same : (f : ℕ) → form_in w' f ≡ form_in w f
  form_in_same f = form_same w w' f (λ k l u. h k (omega arith)) (λ j u. part_in_same f j)

  pub devices_in_same : (n : ℕ) → devices_in w' n ≡ devices_in w n
  devices_in_same n = tab_ext (λ i. cell w' (device_address i)) (λ i. cell w (device_address i)) n (λ i k. h (device_address i) (omega arith))

  pub sheet_in_same : sheet_in w' ≡ sheet_in w
  unfolding sheet_in
  sheet_in_same = λ p. record { rows = rows p; forms = forms p; devices = devices p; main = main p }
    where
      rows : rows_in w' (cell w' row_count_at) ≡ rows_in w (cell w row_count_at)
      rows = ap (λ (n : ℕ). rows_in w' n) (h row_count_at (omega arith)) ∙ rows_in_same (cell w row_count_at)

      forms : forms_in w' (cell w' form_count_at) ≡ forms_in w (cell w form_count_at)
      forms =
          ap (λ (n : ℕ). forms_in w' n) (h form_count_at (omega arith))
          ∙ tab_ext (form_in w') (form_in w) (cell w form_count_at) (λ f k. form_in_same f)

      devices : devices_in w' (cell w' device_count_at) ≡ devices_in w (cell w device_count_at)
      devices = ap (λ (n : ℕ). devices_in w' n) (h device_count_at (omega arith)) ∙ devices_in_same (cell w device_count_at)

      main : instrs_in w' (cell w' main_start_at) (cell w' main_count_at) ≡ instrs_in w (cell w main_start_at) (cell w main_count_at)
      main =
          ap₂ (λ (s n : ℕ). instrs_in w' s n) (h main_start_at (omega arith)) (h main_count_at (omega arith))
          ∙ instrs_in_same (cell w main_start_at) (cell w main_count_at)
