-- A text that reads as a sheet is that sheet's print: reading loses nothing. Assumes nothing.
use Prim.Native.Nat.{ℕ}
use mathlib.Core.Path.{◌≡◌, sym, ap, ◌∙◌, subst}
use mathlib.Core.Bool.{Bool, true, false, cond, not, ◌&&◌, ◌||◌}
use mathlib.Core.List.{List, [], ◌∷◌, ◌++◌, map}
use lib.Dec.{leb}
use lib.ListN.{length}
use Rattle.lists.specs.Each.{Each, none, each}
use Rattle.lists.proofs.EachLaws.{Each-both, Each-map, Each-follows}
use Rattle.lists.proofs.Tests.{clash, and_left}
use Rattle.sheet_rules.specs.declared.Member.{Member}
use Rattle.sheet_rules.specs.declared.Member.TheVariants.{Method, Field}
use Rattle.sheet_rules.specs.declared.Place.{Place}
use Rattle.sheet_rules.specs.declared.Reason.TheVariants.{TextTooLong}
use Rattle.sheet_rules.specs.Limits.{text_limit}
use Rattle.sheet_rules.specs.Keys.{same_place}
use Rattle.sheet_rules.specs.Lines.{Line, line, lines_of}
use Rattle.sheet_rules.specs.Sheet.{Row, Instr, new, call, get, put, copy, Part, init, body, Form, Sheet}
use Rattle.sheet_rules.specs.Reading.{read_sheet, readable, unreadable, conclude, meaning}
use Rattle.sheet_rules.specs.Print.{member_written, rows_written, instr_written, part_written, parts_written, keep_written, forms_written, device_written, devices_written, before_forms, sheet_written, lines_bytes, print}
use Rattle.sheet_rules.proofs.PrintLines.{has_key, Standing, standing, Proper, lines_back}
use Rattle.sheet_rules.proofs.PrintLaws.{lines_written}

-- EVERY LINE OF A SHEET HAS A KEY AND A NUMBER

-- the place of a line at which a form's lines begin, or before which the forms end
abbrev pub is_border : Place → Bool
is_border k = same_place k Place.Form || (same_place k Place.Devices || same_place k Place.Main)

-- the place of any other key
abbrev pub is_inner : Place → Bool
is_inner k = has_key k && not (is_border k)

-- a line of such a place, with a number
abbrev pub Inner : Line → Type 0
Inner l = Standing is_inner l

Inner-Proper : (l : Line) → Inner l → Proper l
Inner-Proper (line k (n ∷ ns)) (standing t) = standing (and_left (has_key k) (not (is_border k)) t)
Inner-Proper (line k []) x3 = elim x3 [ ]
Inner-Proper Rattle.sheet_rules.specs.Lines.torn x'' = elim x'' [ ]

Member-Inner : (m : Member) → Inner (member_written m)
Member-Inner (Method n a r) = standing tt
Member-Inner (Field n r) = standing tt

instr_inner : (i : Instr) → Inner (instr_written i)
instr_inner (new f ss) = standing tt
instr_inner (call o n a) = standing tt
instr_inner (get n) = standing tt
instr_inner (put n v) = standing tt
instr_inner (copy v) = standing tt

rows_inner : (rows : List Row) → Each Inner (rows_written rows)
unfolding rows_written
rows_inner [] = none
rows_inner (a ∷ bs) = each (standing tt) (Each-both (Each-map member_written Member-Inner a.members) (rows_inner bs))

part_inner : (p : Part) → Each Inner (part_written p)
part_inner (init k) = each (standing tt) none
part_inner (body is) = each (standing tt) (Each-map instr_written instr_inner is)

parts_inner : (ps : List Part) → Each Inner (parts_written ps)
unfolding parts_written
parts_inner [] = none
parts_inner (p ∷ ps) = Each-both (part_inner p) (parts_inner ps)

-- the lines before the forms
pub before_inner : (s : Sheet) → Each Inner (before_forms s)
before_inner s = each (standing tt) (Each-both (rows_inner s.rows) (each (standing tt) none))

-- the lines of a form after its first
abbrev pub after_first : Form → List Line
after_first f = map keep_written f.keeps ++ parts_written f.parts

pub form_inner : (f : Form) → Each Inner (after_first f)
form_inner f = Each-both (Each-map keep_written (λ b. standing tt) f.keeps) (parts_inner f.parts)

forms_proper : (fs : List Form) → Each Proper (forms_written fs)
unfolding forms_written
forms_proper [] = none
forms_proper (f ∷ fs) = each (standing tt) (Each-both (Each-follows Inner-Proper (form_inner f)) (forms_proper fs))

devices_proper : (fs : List ℕ) → Each Proper (devices_written fs)
unfolding devices_written
devices_proper [] = none
devices_proper (f ∷ fs) = each (standing tt) (Each-map device_written (λ g. standing tt) (f ∷ fs))

pub sheet_proper : (s : Sheet) → Each Proper (sheet_written s)
sheet_proper s =
    Each-both (Each-follows Inner-Proper (before_inner s))
    (Each-both (forms_proper s.forms)
    (Each-both (devices_proper s.devices) (each (standing tt) (Each-follows Inner-Proper (Each-map instr_written instr_inner s.main)))))

-- THE ROUND TRIP

-- the lines of a readable text are the lines of its sheet
pub readable_lines : (text : List ℕ) (s : Sheet) → meaning text ≡ readable s → lines_of text ≡ sheet_written s
unfolding meaning
readable_lines text s e = go (leb (length text) text_limit) e
  where
    go : (b : Bool) → cond b (conclude (read_sheet (lines_of text) 1)) (unreadable TextTooLong 0) ≡ readable s → lines_of text ≡ sheet_written s
    go true e = lines_written (lines_of text) 1 s e
    go false e = clash (cc)

-- and its bytes are their print
pub readable-print : (text : List ℕ) (s : Sheet) → meaning text ≡ readable s → text ≡ print s
unfolding print
readable-print text s e =
    let l = readable_lines text s e in
    lines_back text (subst (Each Proper) (sym l) (sheet_proper s)) ∙ ap lines_bytes l
