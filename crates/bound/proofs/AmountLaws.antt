-- Amounts over the table: a law for each turn of the loops over a body's instructions, over a form's members and over the forms. Assumes
-- nothing.
use Prim.Native.Nat.{ℕ, suc, ◌+◌, ◌*◌, ◌≤◌, ◌<◌, min, max}
use native.Mathlib.Omega.{arith}
use native.Mathlib.Decide.{dec_le}
use native.Mathlib.Numerals.{add-one}
use mathlib.Core.Path.{◌≡◌, sym, ap, ap₂, ◌∙◌, subst}
use mathlib.Core.List.{List}
use lib.ListN.{length, get_or, set, drop, drop_of_length-le, length-set}
use lib.Seq.{drop-cons, get_or-set_same, get_or-set_other}
use Rattle.lists.proofs.TabLaws.{length-tab, get_or-tab}
use Rattle.sheet_rules.specs.Sheet.{Instr, copy, called_name, Sheet, no_form, form_at}
use Rattle.table.specs.Layout.{main_start_at, main_count_at}
use Rattle.table.specs.View.{cell, instr_in, instrs_in, sheet_in}
use Rattle.table.specs.declared.forms.PartPlace.{PartPlace}
use Rattle.table.specs.Told.{part_told}
use Rattle.table.proofs.SheetLaws.{main_is}
use Rattle.bound_rules.specs.Strict.{body_of}
use Rattle.bound_rules.specs.Amount.{called_amount, code_amount, body_amount, largest_in, name_amount, amounts, main_amount}
use Rattle.bound_rules.specs.BoundQuestion.{amount_limit, counted}
use Rattle.bound.specs.Told.{code_of, members_below, Passed, FormTold, NameTold, CutOff}
use Rattle.bound.proofs.CutLaws.{cut_max, code_counted}

max_assoc : (a b c : ℕ) → max (max a b) c ≡ max a (max b c)
max_assoc a b c = omega arith

-- THE INSTRUCTIONS OF A BODY

-- where the loop stands: what is added up, and what the rest adds, is the whole
pub record Summing (w xs : List ℕ) (start count j amount : ℕ) : Type 0 where
  pub within : j ≤ count
  pub few : amount ≤ 4294967296 * j
  pub same : amount + code_amount xs (drop j (instrs_in w start count)) ≡ code_amount xs (instrs_in w start count)

pub Summing-start : {w xs : List ℕ} {start count : ℕ} → Summing w xs start count 0 0
Summing-start = record { within = omega arith; few = omega arith; same = omega arith }

module _ {w xs : List ℕ} {start count j amount : ℕ} (g : Summing w xs start count j amount) where
  abbrev code : List Instr
  code = instrs_in w start count

  count_is : length code ≡ count
  count_is = length-tab (λ i. instr_in w (start + i)) count

  pub Summing-next : j < count → {at : ℕ} → at ≡ start → {added : ℕ} → added ≡ called_amount xs (called_name (instr_in w (at + j))) → added ≤ amount_limit
      → Summing w xs start count (j + 1) (amount + (1 + added))
  unfolding code_amount
  Summing-next l {at} e {added} told small =
      record {
        within = omega arith;
        few = omega (arith, g.few);
        same =
            (let a : code_amount xs (drop j code) ≡ suc (called_amount xs (called_name (get_or code j (copy 0))) + code_amount xs (drop (suc j) code)) = ap (code_amount xs) (drop-cons code j (copy 0) (omega (arith, count_is))) in
            let b : code_amount xs (drop (j + 1) code) ≡ code_amount xs (drop (suc j) code) = ap (λ (i : ℕ). code_amount xs (drop i code)) (add-one j) in
            let c : added ≡ called_amount xs (called_name (get_or code j (copy 0))) = told ∙ ap (λ (p : ℕ). called_amount xs (called_name (instr_in w (p + j)))) e ∙ sym (ap (λ (i : Instr). called_amount xs (called_name i)) (get_or-tab (λ i. instr_in w (start + i)) count j (copy 0) l)) in
            let d = g.same in
            omega arith);
      }

  pub summing_end : count ≤ j → amount ≡ code_amount xs code
  unfolding code_amount
  summing_end l =
      let past : length code ≤ j = omega (arith, count_is) in
      let a : code_amount xs (drop j code) ≡ 0 = ap (code_amount xs) (drop_of_length-le code past) in
      omega (arith, g.same)

-- a part, cut off
module _ (w xs : List ℕ) {p : PartPlace} where
  pub body_told : {start count : ℕ} → p ≡ PartPlace.Body start count → {amount n : ℕ} → n ≡ count → amount ≡ code_amount xs (instrs_in w start n) → {r : ℕ} → r ≡ min (amount + 1) amount_limit
      → r ≡ min (body_amount xs (code_of (part_told w p))) amount_limit
  body_told {start} {count} e {amount} n-is told cut =
      cut
      ∙ ap (λ (a : ℕ). min a amount_limit) (add-one amount ∙ ap suc (told ∙ ap (λ (k : ℕ). code_amount xs (instrs_in w start k)) n-is))
      ∙ ap (λ (x : PartPlace). min (body_amount xs (code_of (part_told w x))) amount_limit) (sym e)

  pub init_told : {k : ℕ} → p ≡ PartPlace.Init k → 0 ≡ min (body_amount xs (code_of (part_told w p))) amount_limit
  init_told e = ap (λ (x : PartPlace). min (body_amount xs (code_of (part_told w x))) amount_limit) (sym e)

-- THE LARGEST OVER A NAME'S BODIES

-- where the loop stands: the largest so far, and the largest of the forms left; the member of the name is passed in the forms before
pub record Comparing (s : Sheet) (xs : List ℕ) (n f largest : ℕ) (ys : List ℕ) : Type 0 where
  pub same : max largest (min (largest_in s xs n (drop f s.forms)) amount_limit) ≡ min (name_amount s xs n) amount_limit
  pub size : length ys ≡ 64
  pub before : (g : ℕ) → g < f → g < length s.forms → get_or ys g 0 ≡ members_below s g (suc n)
  pub left : (g : ℕ) → f ≤ g → g < length s.forms → get_or ys g 0 ≡ members_below s g n

pub Comparing-start : {s : Sheet} {xs : List ℕ} {n : ℕ} {ys : List ℕ} → Passed s n ys → Comparing s xs n 0 0 ys
Comparing-start p = record { same = omega arith; size = p.size; before = λ g l k. absurd (omega arith); left = λ g l k. p.each g k }

module _ {s : Sheet} {xs : List ℕ} {n f largest : ℕ} {ys : List ℕ} (g : Comparing s xs n f largest ys) where
  pub comparing_end : length s.forms ≤ f → NameTold s xs n ys largest
  unfolding largest_in
  comparing_end past =
      let a : largest_in s xs n (drop f s.forms) ≡ 0 = ap (largest_in s xs n) (drop_of_length-le s.forms past) in
      record { amount = omega (arith, g.same); passed = record { size = g.size; each = λ i k. g.before i (omega arith) k } }

  module _ (l : f < length s.forms) {a : ℕ} {ys' : List ℕ} (told : FormTold s xs f n ys ys' a) {r : ℕ} (e : r ≡ max largest a) where
    rest : ℕ
    rest = largest_in s xs n (drop (suc f) s.forms)

    both : min (largest_in s xs n (drop f s.forms)) amount_limit ≡ max a (min rest amount_limit)
    unfolding largest_in rest
    both =
        ap (λ (x : ℕ). min x amount_limit) (ap (largest_in s xs n) (drop-cons s.forms f no_form l))
        ∙ cut_max (body_amount xs (body_of s (form_at s f) n)) rest ∙ ap (λ (x : ℕ). max x (min rest amount_limit)) (sym told.amount)

    passed_at : (i : ℕ) → get_or ys' i 0 ≡ get_or (set ys f (members_below s f (suc n))) i 0
    passed_at i = ap (λ (y : List ℕ). get_or y i 0) told.passed

    pub Comparing-next : f < 64 → Comparing s xs n (f + 1) r ys'
    unfolding rest
    Comparing-next small =
        record {
          same =
              ap₂ (λ (x : ℕ) (i : ℕ). max x (min (largest_in s xs n (drop i s.forms)) amount_limit)) e (add-one f)
              ∙ max_assoc largest a (min rest amount_limit) ∙ ap (max largest) (sym both) ∙ g.same;
          size = ap length told.passed ∙ simp length-set g.size;
          before = λ i k t. passed_at i ∙ go i k t (dec_le (suc i) f);
          left = λ i k t. passed_at i ∙ get_or-set_other ys f i (members_below s f (suc n)) 0 (λ q. omega arith) ∙ g.left i (omega arith) t;
        }
      where
        go : (i : ℕ) → i < f + 1 → i < length s.forms → Dec (suc i ≤ f) → get_or (set ys f (members_below s f (suc n))) i 0 ≡ members_below s i (suc n)
        go i k t (yes b) = get_or-set_other ys f i (members_below s f (suc n)) 0 (λ q. omega arith) ∙ g.before i b t
        go i k t (no b) =
            let same : f ≡ i = omega arith in
            subst (λ (x : ℕ). get_or (set ys f (members_below s f (suc n))) x 0 ≡ members_below s x (suc n)) same
            (get_or-set_same ys f (members_below s f (suc n)) 0 (omega (arith, g.size)))

-- MAIN

pub main_told : (w : List ℕ) {zs : List ℕ} → CutOff (amounts (sheet_in w)) zs → {start count r : ℕ} → start ≡ cell w main_start_at → count ≡ cell w main_count_at
    → r ≡ code_amount zs (instrs_in w start count) → counted r ≡ counted (main_amount (sheet_in w))
unfolding main_amount
main_told w {zs} cut es ec told =
    code_counted (amounts (sheet_in w)) zs cut (sheet_in w).main
    (told ∙ ap₂ (λ (a b : ℕ). code_amount zs (instrs_in w a b)) es ec ∙ ap (code_amount zs) (main_is w))
