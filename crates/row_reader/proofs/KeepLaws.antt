-- A member stored in row i changes neither the rows before it nor the members before it; and what is left to ask of its line.
-- Assumes nothing.
use Prim.Native.Nat.{ℕ, suc, ◌+◌, ◌≤◌, ◌<◌}
use native.Mathlib.Omega.{arith}
use native.Mathlib.Numerals.{add-one}
use mathlib.Core.Path.{◌≡◌, refl, sym, ap, ap₂, ◌∙◌, subst}
use mathlib.Core.Bool.{Bool, true, false, not, ◌&&◌}
use mathlib.Core.List.{List, [], ◌∷◌, ◌++◌}
use lib.Dec.{T, eqb, eqb→eq}
use lib.ListN.{length, drop}
use Rattle.lists.proofs.TabLaws.{tab-suc, tab_ext, length-tab}
use Rattle.sheet_rules.specs.declared.Place.{Place}
use Rattle.sheet_rules.specs.declared.Member.{Member}
use Rattle.sheet_rules.specs.declared.MemberKind.{MemberKind}
use Rattle.sheet_rules.specs.declared.Reason.{Reason}
use Rattle.sheet_rules.specs.declared.Reason.TheVariants.{DuplicateRow, NotDefined}
use Rattle.sheet_rules.specs.Lines.{Line, lines_of}
use Rattle.sheet_rules.specs.Keys.{member_kind}
use Rattle.sheet_rules.specs.Reader.{Judged, good, bad, demand, got, refused, settle}
use Rattle.sheet_rules.specs.RowLines.{kind_of, twin, member_of, mentions_below}
use Rattle.lexer.specs.declared.numbers.Numbers.{Numbers}
use Rattle.lexer.specs.Told.{list_of}
use Rattle.line_judges.specs.Told.{MemberShaped, member_rest}
use Rattle.line_judges.proofs.JudgeLaws.{demand_no, demand_yes}
use Rattle.table.specs.Layout.{row_address, member_address, work_size}
use Rattle.table.specs.View.{cell, member_from, member_in, members_in, row_in, rows_in}
use Rattle.table.specs.Only.{Only}
use Rattle.table.proofs.ViewLaws.{Only-widen, row_other}
use Rattle.table.specs.Stores.{member_put}
use Rattle.row_store.specs.Stored.{Stored}
use Rattle.row_store.proofs.StoreLaws.{Stored-member}
use Rattle.line_reader.specs.declared.Cursor.{Cursor}
use Rattle.line_reader.proofs.ExitLaws.{no_answer}
use Rattle.row_reader.specs.Reads.{heading_in, InRow, Kept}
use Rattle.std.specs.declared.result.Result.TheVariants.{Ok}
use Rattle.sheet_rules.specs.Answers.{turned_away}
use Rattle.sheet_rules.specs.Reader.{nth}

-- members before and after the one that changed
module _ (w w' : List ℕ) (i j : ℕ) (o : Only (member_address i j) (member_address i j + 4) w w') where
  pub member_before : (k : ℕ) → k < j → j < 8 → member_in w' i k ≡ member_in w i k
  unfolding member_in
  member_before k h m =
      λ x. member_from (o.below (member_address i k) (omega arith) x) (o.below (member_address i k + 1) (omega arith) x)
      (o.below (member_address i k + 2) (omega arith) x) (o.below (member_address i k + 3) (omega arith) x)

  pub members_before : j < 8 → members_in w' i j ≡ members_in w i j
  members_before m = tab_ext (member_in w' i) (member_in w i) j (λ k h. member_before k h m)

  pub heading_same : heading_in w' i ≡ heading_in w i
  heading_same = λ x. record { kind = kind_of (o.below (row_address i) (omega arith) x); count = o.below (row_address i + 1) (omega arith) x }

  in_row : Only (row_address i) (row_address i + 36) w w'
  in_row = Only-widen (omega arith) (omega arith) o

  pub rows_before : i < 64 → rows_in w' i ≡ rows_in w i
  rows_before h = tab_ext (row_in w') (row_in w) i (λ k l. row_other w w' i k in_row h (omega arith) (λ e. omega arith))

-- a member was stored: the test of the whole row
module _ {w w' : List ℕ} {i j count : ℕ} {k : Place} {ns : Numbers} (r : InRow w i j count) (shaped : MemberShaped k ns) {kind : MemberKind} (ek : kind ≡ member_kind k)
    (put : w' ≡ member_put w i j kind (nth ns.values 0) (nth ns.values 1) (nth ns.values 2)) where
  s : Stored i j (member_of (member_kind k) (list_of ns)) w w'
  s = Stored-member w w' i j k ns kind r.size shaped ek put

  counted_still : cell w' (row_address i + 1) ≡ count
  counted_still = s.only.below (row_address i + 1) (omega arith) ∙ r.counted

  -- what the twin's test asks for
  pub twin_ready : (i < 64) × (j < 8) × (cell w' (row_address i + 1) ≤ 8) × (work_size ≤ length w')
  twin_ready = (r.row, omega (arith, r.member, r.few), omega (arith, counted_still, r.few), omega (arith, s.only.size, r.size))

  m : Member
  m = member_of (member_kind k) (list_of ns)

  whole : suc j ≡ count → row_in w' i ≡ record { kind = kind_of (cell w (row_address i)); members = members_in w i j ++ (m ∷ []) }
  unfolding row_in m
  whole e =
      λ x. record {
        kind = kind_of (s.only.below (row_address i) (omega arith) x);
        members = members x;
      }
    where
      members : members_in w' i (cell w' (row_address i + 1)) ≡ members_in w i j ++ (member_of (member_kind k) (list_of ns) ∷ [])
      members =
          ap (members_in w' i) (counted_still ∙ sym e)
          ∙ tab-suc (member_in w' i) j
          ∙ ap₂ (λ (xs : List Member) (x : Member). xs ++ (x ∷ [])) (members_before w w' i j s.only (omega (arith, r.member, r.few))) s.holds

  -- what the code asks is what the rule asks
  pub twin_asked : (eqb (suc j) count && twin (rows_in w' i) (row_in w' i))
      ≡ (eqb (suc (length (members_in w i j))) (heading_in w i).count
      && twin (rows_in w i) (record { kind = (heading_in w i).kind; members = members_in w i j ++ (member_of (member_kind k) (list_of ns) ∷ []) }))
  unfolding m
  twin_asked =
      go (eqb (suc j) count) refl
      ∙ ap₂ (λ (a b : ℕ). eqb (suc a) b && T_of) (sym (length-tab (member_in w i) j)) (sym r.counted)
    where
      T_of : Bool
      T_of = twin (rows_in w i) (record { kind = (heading_in w i).kind; members = members_in w i j ++ (member_of (member_kind k) (list_of ns) ∷ []) })

      go : (b : Bool) → eqb (suc j) count ≡ b → (b && twin (rows_in w' i) (row_in w' i)) ≡ (b && T_of)
      go false e = refl
      go true e =
          ap₂ twin (rows_before w w' i j s.only r.row) (whole (eqb→eq (suc j) count (subst T (sym e) tt)))

  settle-bad : (q : Reason) (ls : List Line) (n : ℕ) → settle {A = Member} (bad q) ls n ≡ refused q n
  unfolding settle
  settle-bad q ls n = refl

  settle-good : (x : Member) (ls : List Line) (n : ℕ) → settle (good x) ls n ≡ got x ls (suc n)
  unfolding settle
  settle-good x ls n = refl

  rest : Judged Member
  rest = member_rest (length (rows_in w i)) (rows_in w i) (heading_in w i) (members_in w i j) k (list_of ns)

  is_asked : Bool
  is_asked =
      eqb (suc (length (members_in w i j))) (heading_in w i).count
      && twin (rows_in w i) (record { kind = (heading_in w i).kind; members = members_in w i j ++ (member_of (member_kind k) (list_of ns) ∷ []) })

  rest_twin : is_asked ≡ true → rest ≡ bad DuplicateRow
  unfolding rest member_rest is_asked
  rest_twin e = demand_no _ _ _ (ap not e)

  rest_on : is_asked ≡ false → rest ≡ demand (mentions_below (length (rows_in w i)) (member_of (member_kind k) (list_of ns))) NotDefined (good (member_of (member_kind k) (list_of ns)))
  unfolding rest member_rest is_asked
  rest_on e = demand_yes _ _ _ (ap not e)

  lower : mentions_below (length (rows_in w i)) (member_of (member_kind k) (list_of ns)) ≡ mentions_below i (member_in w' i j)
  lower = ap₂ mentions_below (length-tab (row_in w) i) (sym s.holds)

  module _ (n : ℕ) (next : Cursor) where
    pub keep_twin : (eqb (suc j) count && twin (rows_in w' i) (row_in w' i)) ≡ true → Kept i j k ns n next w w' (turned_away DuplicateRow n)
    unfolding rest is_asked
    keep_twin e =
        record {
          told = λ text. sym (ap (λ x. settle x (lines_of (drop next.at text)) n) (rest_twin (sym twin_asked ∙ e)) ∙ settle-bad DuplicateRow (lines_of (drop next.at text)) n);
          only = s.only;
          moves = λ to p. no_answer p;
        }

    module _ (e : (eqb (suc j) count && twin (rows_in w' i) (row_in w' i)) ≡ false) where
      pub keep_not : mentions_below i (member_in w' i j) ≡ false → Kept i j k ns n next w w' (turned_away NotDefined n)
      unfolding rest is_asked
      keep_not f =
          record {
            told = λ text.
                sym (ap (λ x. settle x (lines_of (drop next.at text)) n) (rest_on (sym twin_asked ∙ e) ∙ demand_no _ _ _ (lower ∙ f))
                ∙ settle-bad NotDefined (lines_of (drop next.at text)) n);
            only = s.only;
            moves = λ to p. no_answer p;
          }

      pub keep_good : next.line ≡ n + 1 → mentions_below i (member_in w' i j) ≡ true → Kept i j k ns n next w w' (Ok next)
      unfolding rest is_asked
      keep_good en f =
          record {
            told = λ text.
                ap₂ (λ (x : Member) (l : ℕ). got x (lines_of (drop next.at text)) l) s.holds (en ∙ add-one n)
                ∙ sym (ap (λ x. settle x (lines_of (drop next.at text)) n) (rest_on (sym twin_asked ∙ e) ∙ demand_yes _ _ _ (lower ∙ f))
                ∙ settle-good (member_of (member_kind k) (list_of ns)) (lines_of (drop next.at text)) n);
            only = s.only;
            moves = λ to p. cc;
          }
