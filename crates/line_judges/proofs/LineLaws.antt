-- What each judge of lines asks of a line that the lexer gave, test by test. Assumes nothing.
use Prim.Native.Nat.{ℕ, ◌+◌}
use mathlib.Core.Path.{◌≡◌, refl, ap}
use mathlib.Core.List.{List}
use lib.Dec.{leb, ltb}
use Rattle.sheet_rules.specs.declared.Member.{Member}
use Rattle.sheet_rules.specs.declared.MemberKind.{MemberKind}
use Rattle.sheet_rules.specs.declared.Place.{Place}
use Rattle.sheet_rules.specs.declared.Reason.TheVariants.{Malformed, OutOfLimit, NotDefined, NotAscending}
use Rattle.sheet_rules.specs.Limits.{member_limit, keep_limit, name_limit, body_limit, instruction_limit}
use Rattle.sheet_rules.specs.Keys.{same_place}
use Rattle.sheet_rules.specs.Sheet.{Row}
use Rattle.sheet_rules.specs.Reader.{good, demand, nth, within, count_line, existing_line}
use Rattle.sheet_rules.specs.RowLines.{Heading, ascends, row_line, member_line}
use Rattle.sheet_rules.specs.FormLines.{form_line, body_line}
use Rattle.lexer.specs.declared.numbers.Numbers.{Numbers}
use Rattle.lexer.specs.Told.{list_of, Fitting}
use Rattle.line_judges.specs.Told.{row_told, form_told, member_rest}
use Rattle.line_judges.proofs.JudgeLaws.{stands_place, number_first, number_second, two_of_row, two_of_form, demand_place, demand_both}

module _ (w : Place) {k : Place} {ns : Numbers} (h : Fitting k ns) where
  -- the limits of a count
  pub count_asks : (low high : ℕ) → count_line w low high k (list_of ns)
      ≡ demand (same_place k w) Malformed (demand (within low high (nth ns.values 0)) OutOfLimit (good (nth ns.values 0)))
  unfolding count_line
  count_asks low high = rw (stands_place w k ns h, number_first k ns h) refl

  -- the number of something that is there
  pub existing_asks : (there : ℕ) → existing_line w there k (list_of ns)
      ≡ demand (same_place k w) Malformed (demand (ltb (nth ns.values 0) there) NotDefined (good (nth ns.values 0)))
  unfolding existing_line
  existing_asks there = rw (stands_place w k ns h, number_first k ns h) refl

  -- the instructions of a body
  pub body_asks : (used : ℕ) → body_line w used k (list_of ns)
      ≡ demand (same_place k w) Malformed
      (demand (within 1 body_limit (nth ns.values 0)) OutOfLimit
      (demand (leb (used + nth ns.values 0) instruction_limit) OutOfLimit (good (nth ns.values 0))))
  unfolding body_line
  body_asks used = rw (stands_place w k ns h, number_first k ns h, demand_both) refl

module _ {k : Place} {ns : Numbers} (h : Fitting k ns) where
  -- a row's heading
  pub row_asks : (earlier : List Row) → row_line earlier k (list_of ns)
      ≡ demand (same_place k Place.Row) Malformed
      (demand (leb (nth ns.values 0) 1) OutOfLimit
      (demand (leb (nth ns.values 1) member_limit) OutOfLimit (row_told earlier (nth ns.values 0) (nth ns.values 1))))
  unfolding row_line
  row_asks earlier =
      rw (stands_place Place.Row k ns h)
      (demand_place (same_place k Place.Row) Malformed (λ t. rw (number_first k ns h, number_second k ns h (two_of_row k t), demand_both) refl))

  -- a form's heading
  pub form_asks : (rows : ℕ) → form_line rows k (list_of ns)
      ≡ demand (same_place k Place.Form) Malformed
      (demand (leb (nth ns.values 1) keep_limit) OutOfLimit
      (demand (ltb (nth ns.values 0) rows) NotDefined (form_told (nth ns.values 0) (nth ns.values 1))))
  unfolding form_line
  form_asks rows =
      rw (stands_place Place.Form k ns h)
      (demand_place (same_place k Place.Form) Malformed (λ t. rw (number_first k ns h, number_second k ns h (two_of_form k t)) refl))

  -- a member
  pub member_asks : (bound : ℕ) (earlier : List Row) (heading : Heading) (before : List Member) → member_line bound earlier heading before k (list_of ns)
      ≡ demand (same_place k (Place.Member MemberKind.Method)) Malformed
      (demand (leb (nth ns.values 0) name_limit) OutOfLimit
      (demand (ascends before (nth ns.values 0)) NotAscending (member_rest bound earlier heading before k (list_of ns))))
  unfolding member_line member_rest
  member_asks bound earlier heading before =
      rw (stands_place (Place.Member MemberKind.Method) k ns h)
      (ap (λ (n : ℕ). demand (same_place k (Place.Member MemberKind.Method)) Malformed
      (demand (leb n name_limit) OutOfLimit (demand (ascends before n) NotAscending (member_rest bound earlier heading before k (list_of ns)))))
      (number_first k ns h))
