-- Notes that are cleared and set: of a slot, of an instruction, of a code. Assumes nothing.
use Prim.Native.Nat.{ℕ, ◌+◌, ◌-◌, ◌≤◌, ◌<◌, min}
use native.Mathlib.Omega.{arith}
use mathlib.Core.Path.{◌≡◌, sym, ap, ◌∙◌, subst}
use mathlib.Core.Bool.{Bool, false, ◌||◌, or-false, or_assoc}
use mathlib.Core.List.{List, [], ◌∷◌}
use lib.Dec.{eqb}
use lib.ListN.{length, get_or, take}
use lib.Seq.{take_all}
use Rattle.lists.specs.Tab.{tab}
use Rattle.lists.specs.AnyAll.{any}
use Rattle.lists.specs.Contains.{contains}
use Rattle.lists.proofs.AnyAllLaws.{any-tab}
use Rattle.lists.proofs.ContainsLaws.{contains-take}
use Rattle.sheet_rules.specs.Sheet.{Instr, named_slots, code_names}
use Rattle.table.specs.declared.instrs.Instruction.{Instruction}
use Rattle.table.specs.Layout.{code_notes_at, work_size}
use Rattle.table.specs.Told.{new_slots, instr_told}
use Rattle.table.specs.View.{instr_in, instrs_in}
use Rattle.table.specs.Only.{Only}
use Rattle.table.proofs.ViewLaws.{SameTable, only→same, Only-refl, Only-trans, instr_in_same, instrs_in_same, new_slots_same}
use Rattle.table.proofs.InstrLaws.{instr_within}
use Rattle.slot_notes.specs.Noted.{note_count, is_noted, Room, NotesOnly, NotesCleared, Noted, NotedAfresh, CodeNoted}

-- WHAT STAYS

module _ {at : ℕ} {w w' : List ℕ} (r : Room at w) (o : NotesOnly at w w') where
  pub Room-kept : Room at w'
  Room-kept = record { above = r.above; inside = r.inside; size = omega (arith, r.size, o.size) }

  -- the table lies below the notes
  pub notes_table : SameTable w w'
  notes_table = only→same at (at + note_count) w w' (omega (arith, r.above)) o

-- a note outside the part that is changed
module _ {lo hi : ℕ} {w w' : List ℕ} (o : Only lo hi w w') (at v : ℕ) where
  pub noted_below : at + v < lo → is_noted w' at v ≡ is_noted w at v
  noted_below h = ap (λ (x : ℕ). eqb x 1) (o.below (at + v) h)

  pub noted_above : hi ≤ at + v → is_noted w' at v ≡ is_noted w at v
  noted_above h = ap (λ (x : ℕ). eqb x 1) (o.above (at + v) h)

-- NOTED

pub Noted-none : (at : ℕ) (w : List ℕ) → Noted at w (λ v. false) w
Noted-none at w = record { only = Only-refl at (at + note_count) w; told = λ v h. sym (or-false (is_noted w at v)) }

-- some slots, and then others
pub Noted-then : {at : ℕ} {w w₁ w₂ : List ℕ} {p q r : ℕ → Bool} → Noted at w p w₁ → Noted at w₁ q w₂ → ((v : ℕ) → (p v || q v) ≡ r v)
    → Noted at w r w₂
Noted-then {at} {w} {p = p} {q} m n e =
    record {
      only = Only-trans m.only n.only;
      told = λ v h.
          n.told v h
          ∙ ap (λ (t : Bool). t || q v) (m.told v h)
          ∙ or_assoc (is_noted w at v) (p v) (q v)
          ∙ ap (λ (t : Bool). is_noted w at v || t) (e v);
    }

-- some slots, by another test that tells the same
pub Noted-by : {at : ℕ} {w w' : List ℕ} {p q : ℕ → Bool} → ((v : ℕ) → p v ≡ q v) → Noted at w p w' → Noted at w q w'
Noted-by {at} {w} e n = record { only = n.only; told = λ v h. n.told v h ∙ ap (λ (t : Bool). is_noted w at v || t) (e v) }

-- where no slot was noted before
pub noted→afresh : {at : ℕ} {w w₁ w₂ : List ℕ} {p q : ℕ → Bool} → NotesCleared at w w₁ → Noted at w₁ p w₂ → ((v : ℕ) → p v ≡ q v)
    → NotedAfresh at w q w₂
noted→afresh {p = p} c n e =
    record {
      only = Only-trans c.only n.only;
      told = λ v h. n.told v h ∙ ap (λ (t : Bool). t || p v) (c.told v h) ∙ e v;
    }

-- THE SLOTS OF A `new`

-- the loop over them: none at first, then slot k, until all are noted

pub Noted-nothing : (at : ℕ) (w : List ℕ) → Noted at w (contains []) w
unfolding contains
Noted-nothing = Noted-none

pub named_asks : {at : ℕ} {w : List ℕ} (p : ℕ) {count k : ℕ} {w₁ : List ℕ} → (count ≡ length (new_slots w p)) × (count ≤ 8) → Noted at w (contains (take k (new_slots w p))) w₁
    → Room at w × (p < 1024) → k < count → (p < 1024) × (k < length (new_slots w₁ p)) × (k < 8) × (work_size ≤ length w₁)
named_asks {w = w} p {w₁ = w₁} ec m r h =
    (r.1, omega (arith, ec.0, ap length (new_slots_same w w₁ (notes_table r.0 m.only) p)), omega (arith, ec.1), (Room-kept r.0 m.only).size)

module _ {at : ℕ} {w : List ℕ} (p : ℕ) {count k : ℕ} {w₁ : List ℕ} (ec : count ≡ length (new_slots w p))
    (m : Noted at w (contains (take k (new_slots w p))) w₁) where
  pub slots_next : {v : ℕ} {w₂ : List ℕ} → Room at w → k < count → v ≡ get_or (new_slots w₁ p) k 0 → Noted at w₁ (eqb v) w₂
      → Noted at w (contains (take (k + 1) (new_slots w p))) w₂
  slots_next {v} r h e n =
      Noted-then m n
      (λ u. ap (λ (x : ℕ). contains (take k (new_slots w p)) u || eqb x u) is-slot ∙ contains-take (new_slots w p) k u (omega (arith, ec)))
    where
      is-slot : v ≡ get_or (new_slots w p) k 0
      is-slot = e ∙ ap (λ (xs : List ℕ). get_or xs k 0) (new_slots_same w w₁ (notes_table r m.only) p)

  pub slots_end : count ≤ k → Noted at w (contains (new_slots w p)) w₁
  slots_end l = subst (λ (xs : List ℕ). Noted at w (contains xs) w₁) (take_all k (new_slots w p) (omega (arith, ec))) m

-- AN INSTRUCTION

-- one slot, or two
pub Noted-slot : {at : ℕ} {w w' : List ℕ} {v x : ℕ} → v ≡ x → Noted at w (eqb v) w' → Noted at w (contains (x ∷ [])) w'
unfolding contains
Noted-slot {x = x} e n = Noted-by (λ u. ap (λ (y : ℕ). eqb y u) e ∙ sym (or-false (eqb x u))) n

pub Noted-slots : {at : ℕ} {w w₁ w₂ : List ℕ} {v x u y : ℕ} → v ≡ x → Noted at w (eqb v) w₁ → u ≡ y → Noted at w₁ (eqb u) w₂
    → Noted at w (contains (x ∷ y ∷ [])) w₂
unfolding contains
Noted-slots {x = x} {y = y} d m e n = Noted-then m (Noted-slot e n) (λ z. ap (λ (a : ℕ). eqb a z || (eqb y z || false)) d)

-- the instruction at place p, that was read as j
pub Noted-instr : {at : ℕ} {w w' : List ℕ} (p : ℕ) {i j : Instruction} → instr_told (new_slots w p) i ≡ instr_in w p → i ≡ j
    → Noted at w (contains (named_slots (instr_told (new_slots w p) j))) w' → Noted at w (contains (named_slots (instr_in w p))) w'
Noted-instr {at} {w} {w'} p told e n =
    subst (λ (x : Instr). Noted at w (contains (named_slots x)) w') (ap (instr_told (new_slots w p)) (sym e) ∙ told) n

-- any place of the pool is one of its 1,024
pub Noted-within : {at : ℕ} {w w' : List ℕ} (p : ℕ) {q : ℕ} → q ≡ min p 1023 → Noted at w (contains (named_slots (instr_in w q))) w'
    → Noted at w (contains (named_slots (instr_in w p))) w'
Noted-within {at} {w} {w'} p e n =
    subst (λ (i : Instr). Noted at w (contains (named_slots i)) w') (ap (instr_in w) e ∙ instr_within w p) n

-- A CODE

-- the instructions from p on are noted up to q, on the way to an end that may lie below p
pub record CodeNoting (at p end : ℕ) (w w' : List ℕ) (q : ℕ) : Type 0 where
  pub from : p ≤ q
  pub within : q - p ≤ end - p
  pub noted : Noted at w (code_names (instrs_in w p (q - p))) w'

pub code_start : (at p end : ℕ) (w : List ℕ) → CodeNoting at p end w w p
unfolding code_names any tab
code_start at p end w =
    record {
      from = omega arith;
      within = omega arith;
      noted =
          (let e : 0 ≡ p - p = omega arith in
          subst (λ (n : ℕ). Noted at w (code_names (instrs_in w p n)) w) e (Noted-none at w));
    }

module _ {at p end : ℕ} {w w₁ : List ℕ} {q : ℕ} (m : CodeNoting at p end w w₁ q) where
  pub code_next : {w₂ : List ℕ} → Room at w → q < end → Noted at w₁ (contains (named_slots (instr_in w₁ q))) w₂
      → CodeNoting at p end w w₂ (q + 1)
  unfolding code_names
  code_next r h n =
      let f = m.from in
      record { from = omega arith; within = omega arith; noted = Noted-then m.noted n each }
    where
      each : (v : ℕ)
          → (code_names (instrs_in w p (q - p)) v || contains (named_slots (instr_in w₁ q)) v) ≡ code_names (instrs_in w p (q + 1 - p)) v
      each v =
          let f = m.from in
          let d : q ≡ p + (q - p) = omega arith in
          let e : q - p + 1 ≡ q + 1 - p = omega arith in
          ap (λ (i : Instr). code_names (instrs_in w p (q - p)) v || contains (named_slots i) v)
          (instr_in_same w w₁ (notes_table r m.noted.only) q ∙ ap (instr_in w) d)
          ∙ sym (any-tab (λ i. contains (named_slots i) v) (λ k. instr_in w (p + k)) (q - p))
          ∙ ap (λ (n : ℕ). code_names (instrs_in w p n) v) e

  pub code_end : end ≤ q → Noted at w (code_names (instrs_in w p (end - p))) w₁
  code_end l =
      let f = m.from in
      let h = m.within in
      let e : q - p ≡ end - p = omega arith in
      subst (λ (n : ℕ). Noted at w (code_names (instrs_in w p n)) w₁) e m.noted

-- the notes of a code, and of no slot besides
pub code_noted : {w w₁ w₂ : List ℕ} (p n : ℕ) → work_size ≤ length w → NotesCleared code_notes_at w w₁
    → Noted code_notes_at w₁ (code_names (instrs_in w₁ p n)) w₂ → CodeNoted w (instrs_in w p n) w₂
code_noted {w} {w₁} p n s c m =
    noted→afresh c m (λ v. ap (λ (is : List Instr). code_names is v) (instrs_in_same w w₁ (notes_table room c.only) p n))
  where
    room : Room code_notes_at w
    room = record { above = omega arith; inside = omega arith; size = s }
