-- Four numbers stored in a row are a member. Assumes nothing.
use Prim.Native.Nat.{ℕ, ◌+◌, ◌≤◌, ◌<◌}
use native.Mathlib.Omega.{arith}
use mathlib.Core.Path.{◌≡◌, sym, ap, ◌∙◌, subst}
use mathlib.Core.List.{List}
use lib.Dec.{T, lit≤}
use lib.ListN.{length, set, length-set}
use lib.Seq.{get_or-set_same, get_or-set_other}
use Rattle.sheet_rules.specs.declared.Member.TheVariants.{Method, Field}
use Rattle.sheet_rules.specs.declared.MemberKind.{MemberKind}
use Rattle.sheet_rules.specs.declared.Place.{Place}
use Rattle.sheet_rules.specs.declared.Place.TheVariants.{Types, Row, Member, Forms, Form, Keep, Init, Body, Devices, Device, Main, Instruction, Nowhere}
use Rattle.sheet_rules.specs.Keys.{same_place, member_kind}
use Rattle.sheet_rules.specs.RowLines.{member_of}
use Rattle.lexer.specs.declared.numbers.Numbers.{Numbers}
use Rattle.lexer.specs.Told.{list_of, Fitting}
use Rattle.line_judges.specs.Told.{MemberShaped}
use Rattle.line_judges.proofs.JudgeLaws.{number_first, number_second, number_third}
use Rattle.table.specs.Layout.{member_address, work_size}
use Rattle.table.specs.View.{cell, kind_tag, member_from, member_in}
use Rattle.table.specs.Stores.{member_put}
use Rattle.table.specs.Only.{Only}
use Rattle.table.proofs.ViewLaws.{Only-set, Only-trans}
use Rattle.row_store.specs.Stored.{Stored}
use Rattle.sheet_rules.specs.Reader.{nth}

-- four numbers from a place on
abbrev four : List ℕ → ℕ → ℕ → ℕ → ℕ → ℕ → List ℕ
four w at t a b c = set (set (set (set w at t) (at + 1) a) (at + 2) b) (at + 3) c

module _ (w : List ℕ) (at t a b c : ℕ) where
  four-Only : Only at (at + 4) w (four w at t a b c)
  four-Only =
      Only-trans (Only-trans (Only-trans
      (Only-set at (at + 4) w at t (omega arith) (omega arith))
      (Only-set at (at + 4) (set w at t) (at + 1) a (omega arith) (omega arith)))
      (Only-set at (at + 4) (set (set w at t) (at + 1) a) (at + 2) b (omega arith) (omega arith)))
      (Only-set at (at + 4) (set (set (set w at t) (at + 1) a) (at + 2) b) (at + 3) c (omega arith) (omega arith))

  module _ (h : at + 3 < length w) where
    abbrev w1 : List ℕ
    w1 = set w at t

    abbrev w2 : List ℕ
    w2 = set (set w at t) (at + 1) a

    abbrev w3 : List ℕ
    w3 = set (set (set w at t) (at + 1) a) (at + 2) b

    four_0 : cell (four w at t a b c) at ≡ t
    four_0 =
        get_or-set_other w3 (at + 3) at c 0 (λ e. omega arith) ∙ get_or-set_other w2 (at + 2) at b 0 (λ e. omega arith)
        ∙ get_or-set_other w1 (at + 1) at a 0 (λ e. omega arith) ∙ get_or-set_same w at t 0 (omega arith)

    four-1 : cell (four w at t a b c) (at + 1) ≡ a
    four-1 =
        get_or-set_other w3 (at + 3) (at + 1) c 0 (λ e. omega arith) ∙ get_or-set_other w2 (at + 2) (at + 1) b 0 (λ e. omega arith)
        ∙ get_or-set_same w1 (at + 1) a 0 (omega (arith, length-set w at t))

    four-2 : cell (four w at t a b c) (at + 2) ≡ b
    four-2 =
        get_or-set_other w3 (at + 3) (at + 2) c 0 (λ e. omega arith)
        ∙ get_or-set_same w2 (at + 2) b 0 (omega (arith, length-set w at t, length-set w1 (at + 1) a))

    four-3 : cell (four w at t a b c) (at + 3) ≡ c
    four-3 = get_or-set_same w3 (at + 3) c 0 (omega (arith, length-set w at t, length-set w1 (at + 1) a, length-set w2 (at + 2) b))

four_member : (w : List ℕ) (i j t a b c : ℕ) → work_size ≤ length w
    → member_in (four w (member_address i j) t a b c) i j ≡ member_from t a b c
unfolding member_in
four_member w i j t a b c h =
    let z : member_address i j + 3 < length w = omega arith in
    λ x. member_from (four_0 w (member_address i j) t a b c z x) (four-1 w (member_address i j) t a b c z x)
    (four-2 w (member_address i j) t a b c z x) (four-3 w (member_address i j) t a b c z x)

-- a member line's numbers make its member
pub member_from_lem : (k : Place) (ns : Numbers) → MemberShaped k ns
    → member_from (kind_tag (member_kind k)) (nth ns.values 0) (nth ns.values 1) (nth ns.values 2) ≡ member_of (member_kind k) (list_of ns)
member_from_lem k ns s = go k s.fitting (subst T (sym s.member) tt)
  where
    go : (k : Place) → Fitting k ns → T (same_place k (Member MemberKind.Method))
        → member_from (kind_tag (member_kind k)) (nth ns.values 0) (nth ns.values 1) (nth ns.values 2) ≡ member_of (member_kind k) (list_of ns)
    go (Member MemberKind.Method) h t =
        let k : Place = Member MemberKind.Method in
        sym (λ x. Method (number_first k ns h x) (number_second k ns h (lit≤ tt) x) (number_third k ns h (lit≤ tt) x))
    go (Member MemberKind.Field) h t =
        let k : Place = Member MemberKind.Field in
        sym (λ x. Field (number_first k ns h x) (number_second k ns h (lit≤ tt) x))
    go Types h t = absurd t
    go Row h t = absurd t
    go Forms h t = absurd t
    go Form h t = absurd t
    go Keep h t = absurd t
    go Init h t = absurd t
    go Body h t = absurd t
    go Devices h t = absurd t
    go Device h t = absurd t
    go Main h t = absurd t
    go (Instruction operation) h t = absurd t
    go Nowhere h t = absurd t

-- what storing leaves
pub Stored-member : (w w' : List ℕ) (i j : ℕ) (k : Place) (ns : Numbers) (kind : MemberKind) → work_size ≤ length w → MemberShaped k ns
    → kind ≡ member_kind k → w' ≡ member_put w i j kind (nth ns.values 0) (nth ns.values 1) (nth ns.values 2) → Stored i j (member_of (member_kind k) (list_of ns)) w w'
Stored-member w w' i j k ns kind h s p e =
    record {
      holds =
          ap (λ (x : List ℕ). member_in x i j) e ∙ four_member w i j (kind_tag kind) (nth ns.values 0) (nth ns.values 1) (nth ns.values 2) h
          ∙ ap (λ (x : MemberKind). member_from (kind_tag x) (nth ns.values 0) (nth ns.values 1) (nth ns.values 2)) p ∙ member_from_lem k ns s;
      only =
          subst (Only (member_address i j) (member_address i j + 4) w) (sym e)
          (four-Only w (member_address i j) (kind_tag kind) (nth ns.values 0) (nth ns.values 1) (nth ns.values 2));
    }
