-- The round trip: a text that reads as a sheet is that sheet's print. Each reader takes the lines of what it gives. Assumes nothing.
use Prim.Native.Nat.{ℕ, suc, ◌+◌, ◌≤◌}
use native.Mathlib.Omega.{arith}
use mathlib.Core.Path.{◌≡◌, refl, sym, ap, ◌∙◌}
use mathlib.Core.Bool.{Bool, true, false, cond}
use mathlib.Core.List.{List, [], ◌∷◌, ◌++◌, map, map-append, append_assoc, append-nil}
use lib.ListN.{length, get_or, length-append}
use Rattle.lists.proofs.Tests.{clash}
use Rattle.sheet_rules.specs.declared.Member.{Member}
use Rattle.sheet_rules.specs.declared.Member.TheVariants.{Method, Field}
use Rattle.sheet_rules.specs.declared.Place.{Place}
use Rattle.sheet_rules.specs.declared.Reason.{Reason}
use Rattle.sheet_rules.specs.Limits.{row_limit, form_limit, device_limit}
use Rattle.sheet_rules.specs.Lines.{Line, line}
use Rattle.sheet_rules.specs.Sheet.{Row, Instr, Part, Form, Sheet, no_member, row_at, size_of_parts, size_of_forms}
use Rattle.sheet_rules.specs.Reader.{Read, got, refused, Reader, give, and_then, one, many, count_line, existing_line}
use Rattle.sheet_rules.specs.RowLines.{Heading, row_line, member_line, read_row}
use Rattle.sheet_rules.specs.FormLines.{FormHeading, form_line, body_line, instr_line, read_instrs, read_part, read_form}
use Rattle.sheet_rules.specs.DeviceLines.{next_is, read_device_lines, read_devices}
use Rattle.sheet_rules.specs.Reading.{read_end, read_sheet, readable, conclude}
use Rattle.sheet_rules.specs.Print.{kind_number, member_written, row_written, rows_written, instr_written, part_written, parts_written, keep_written, form_written, forms_written, device_written, devices_written, after_forms, sheet_written}
use Rattle.sheet_rules.proofs.ReaderLaws.{Judges, Judges-map, Judges-both, count_line_within}
use Rattle.sheet_rules.proofs.TakenLaws.{Takes, takes, takes_none, Takes-give, Takes-map, Takes-one, Takes-then, Takes-many}
use Rattle.sheet_rules.proofs.LineWritten.{NumberWritten, types_written, forms_written_lem, devices_written_lem, device_written_lem, keep_written_lem, init_written, body_written, main_written, row_written_lem, form_written_lem, member_written_lem, instr_written_lem}

-- MANY ITEMS

-- the items so far have these lines, and count makes as many as are asked for
record SoFar {A : Type 0} (written : List A → List Line) (count k : ℕ) (xs : List A) (done : List Line) : Type 0 where
  lines : done ≡ written xs
  counted : length xs + k ≡ count

-- all of them
record All {A : Type 0} (written : List A → List Line) (count : ℕ) (xs : List A) (l : List Line) : Type 0 where
  lines : l ≡ written xs
  counted : length xs ≡ count

module _ {A : Type 0} (written : List A → List Line) (one_written : A → List Line) (snoc : (xs : List A) (x : A) → written (xs ++ (x ∷ [])) ≡ written xs ++ one_written x) (none : written [] ≡ []) where
  Takes-items : (item : List A → Reader A) → ((before : List A) (ls : List Line) (n : ℕ) → Takes (λ a l. l ≡ one_written a) ls (item before ls n))
      → (count : ℕ) (ls : List Line) (n : ℕ) → Takes (All written count) ls (many count item [] ls n)
  Takes-items item h count ls n =
      Takes-map (λ xs l p. record { lines = p.lines; counted = omega (arith, p.counted) })
      (Takes-many (SoFar written count) item next count [] [] (record { lines = sym none; counted = omega arith }) ls n)
    where
      next : (k : ℕ) (before : List A) (done : List Line) → SoFar written count (suc k) before done → (ls : List Line) (n : ℕ)
          → Takes (λ a l. SoFar written count k (before ++ (a ∷ [])) (done ++ l)) ls (item before ls n)
      next k before done p ls n =
          Takes-map (λ a l e. record { lines = (λ i. p.lines i ++ e i) ∙ sym (snoc before a); counted = omega (arith, p.counted, length-append before (a ∷ [])) }) (h before ls n)

-- lines of one line each
map_snoc : {A : Type 0} (f : A → Line) (xs : List A) (x : A) → map f (xs ++ (x ∷ [])) ≡ map f xs ++ (f x ∷ [])
map_snoc f xs x = map-append f xs (x ∷ [])

rows_snoc : (xs : List Row) (x : Row) → rows_written (xs ++ (x ∷ [])) ≡ rows_written xs ++ row_written x
unfolding rows_written
rows_snoc [] x = append-nil (row_written x)
rows_snoc (y ∷ ys) x = ap (λ (z : List Line). row_written y ++ z) (rows_snoc ys x) ∙ sym (append_assoc (row_written y) (rows_written ys) (row_written x))

parts_snoc : (xs : List Part) (x : Part) → parts_written (xs ++ (x ∷ [])) ≡ parts_written xs ++ part_written x
unfolding parts_written
parts_snoc [] x = append-nil (part_written x)
parts_snoc (y ∷ ys) x = ap (λ (z : List Line). part_written y ++ z) (parts_snoc ys x) ∙ sym (append_assoc (part_written y) (parts_written ys) (part_written x))

pub forms_snoc : (xs : List Form) (x : Form) → forms_written (xs ++ (x ∷ [])) ≡ forms_written xs ++ form_written x
unfolding forms_written
forms_snoc [] x = append-nil (form_written x)
forms_snoc (y ∷ ys) x = ap (λ (z : List Line). form_written y ++ z) (forms_snoc ys x) ∙ sym (append_assoc (form_written y) (forms_written ys) (form_written x))

rows_none : rows_written [] ≡ []
unfolding rows_written
rows_none = refl

parts_none : parts_written [] ≡ []
unfolding parts_written
parts_none = refl

forms_none : forms_written [] ≡ []
unfolding forms_written
forms_none = refl

-- ROWS

-- a row's heading
abbrev RowHead : Heading → List Line → Type 0
RowHead h l = l ≡ line Place.Row (kind_number h.kind ∷ h.count ∷ []) ∷ []

row_takes : (earlier : List Row) (ls : List Line) (n : ℕ) → Takes (λ a l. l ≡ row_written a) ls (read_row earlier ls n)
unfolding read_row
row_takes earlier ls n =
    Takes-then RowHead _ (Takes-one (row_line earlier) (row_written_lem earlier) ls n)
    (λ h l e ls n. Takes-then (All (map member_written) h.count) _
    (Takes-items (map member_written) (λ m. member_written m ∷ []) (map_snoc member_written) refl (λ before. one (member_line (length earlier) earlier h before))
    (λ before. Takes-one (member_line (length earlier) earlier h before) (member_written_lem (length earlier) earlier h before)) h.count ls n)
    (λ ms m p ls n. Takes-give (rw append-nil ((λ i. e i ++ p.lines i) ∙ ap (λ (c : ℕ). line Place.Row (kind_number h.kind ∷ c ∷ []) ∷ map member_written ms) (sym p.counted)))))

-- INSTRUCTIONS, PARTS AND FORMS

instrs_take : (forms filled i : ℕ) (ls : List Line) (n : ℕ) → Takes (All (map instr_written) i) ls (read_instrs forms filled i ls n)
unfolding read_instrs
instrs_take forms filled i ls n =
    Takes-items (map instr_written) (λ x. instr_written x ∷ []) (map_snoc instr_written) refl (λ before. one (instr_line forms (filled + length before)))
    (λ before. Takes-one (instr_line forms (filled + length before)) (instr_written_lem forms (filled + length before))) i ls n

part_takes : (forms keeps used : ℕ) (m : Member) (ls : List Line) (n : ℕ) → Takes (λ p l. l ≡ part_written p) ls (read_part forms keeps used m ls n)
unfolding read_part
part_takes forms keeps used (Field x r) ls n =
    Takes-then (NumberWritten Place.Init) _ (Takes-one (existing_line Place.Init keeps) (init_written keeps) ls n)
    (λ k l e ls n. Takes-give (rw append-nil e))
part_takes forms keeps used (Method x a r) ls n =
    Takes-then (NumberWritten Place.Body) _ (Takes-one (body_line Place.Body used) (body_written used) ls n)
    (λ i l e ls n. Takes-then (All (map instr_written) i) _ (instrs_take forms (suc (suc keeps)) i ls n)
    (λ is m p ls n. Takes-give (rw append-nil ((λ j. e j ++ p.lines j) ∙ ap (λ (c : ℕ). line Place.Body (c ∷ []) ∷ map instr_written is) (sym p.counted)))))

-- a form's heading
abbrev FormHead : FormHeading → List Line → Type 0
FormHead h l = l ≡ line Place.Form (h.row ∷ h.count ∷ []) ∷ []

form_takes : (rows : List Row) (forms : ℕ) (earlier : List Form) (ls : List Line) (n : ℕ) → Takes (λ f l. l ≡ form_written f) ls (read_form rows forms earlier ls n)
unfolding read_form
form_takes rows forms earlier ls n =
    Takes-then FormHead _ (Takes-one (form_line (length rows)) (form_written_lem (length rows)) ls n)
    (λ h l e ls n. Takes-then (All (map keep_written) h.count) _
    (Takes-items (map keep_written) (λ b. keep_written b ∷ []) (map_snoc keep_written) refl (λ before. one (existing_line Place.Keep (length rows)))
    (λ before. Takes-one (existing_line Place.Keep (length rows)) (keep_written_lem (length rows))) h.count ls n)
    (λ keeps m p ls n. Takes-then (All parts_written (length (row_at rows h.row).members)) _
    (Takes-items parts_written part_written parts_snoc parts_none
    (λ before. read_part forms (length keeps) (size_of_forms earlier + size_of_parts before) (get_or (row_at rows h.row).members (length before) no_member))
    (λ before. part_takes forms (length keeps) (size_of_forms earlier + size_of_parts before) (get_or (row_at rows h.row).members (length before) no_member))
    (length (row_at rows h.row).members) ls n)
    (λ parts q r ls n. Takes-give (rw append-nil
    ((λ i. e i ++ (p.lines i ++ r.lines i)) ∙ ap (λ (c : ℕ). line Place.Form (h.row ∷ c ∷ []) ∷ (map keep_written keeps ++ parts_written parts)) (sym p.counted))))))

-- DEVICES

-- some devices have their lines, if there is one
devices_some : (fs : List ℕ) (d : ℕ) → length fs ≡ d → 1 ≤ d → (line Place.Devices (d ∷ []) ∷ []) ++ (map device_written fs ++ []) ≡ devices_written fs
unfolding devices_written
devices_some [] d e h = absurd (omega arith)
devices_some (f ∷ fs) d e h = λ i. line Place.Devices (sym e i ∷ []) ∷ append-nil (map device_written (f ∷ fs)) i

device_lines_take : (forms : ℕ) (ls : List Line) (n : ℕ) → Takes (λ fs l. l ≡ devices_written fs) ls (read_device_lines forms ls n)
unfolding read_device_lines
device_lines_take forms ls n =
    Takes-then (λ d l. NumberWritten Place.Devices d l × (1 ≤ d)) _ (Takes-one (count_line Place.Devices 1 device_limit) counted ls n)
    (λ d l e ls n. Takes-map (λ fs m p. (λ i. e.0 i ++ p.lines i) ∙ ap (λ (z : List Line). line Place.Devices (d ∷ []) ∷ z) (sym (append-nil (map device_written fs))) ∙ devices_some fs d p.counted e.1)
    (Takes-items (map device_written) (λ f. device_written f ∷ []) (map_snoc device_written) refl (λ before. one (existing_line Place.Device forms))
    (λ before. Takes-one (existing_line Place.Device forms) (device_written_lem forms)) d ls n))
  where
    counted : (k : Place) (ns : List ℕ) → Judges (λ d. NumberWritten Place.Devices d (line k ns ∷ []) × (1 ≤ d)) (count_line Place.Devices 1 device_limit k ns)
    counted k ns = Judges-both (devices_written_lem 1 device_limit k ns) (Judges-map (λ c w. w.0) (count_line_within Place.Devices 1 device_limit k ns))

devices_take : (forms : ℕ) (ls : List Line) (n : ℕ) → Takes (λ fs l. l ≡ devices_written fs) ls (read_devices forms ls n)
unfolding read_devices devices_written
devices_take forms ls n = go (next_is Place.Devices ls)
  where
    go : (b : Bool) → Takes (λ fs l. l ≡ devices_written fs) ls (cond b (read_device_lines forms ls n) (give [] ls n))
    go true = device_lines_take forms ls n
    go false = Takes-give refl

-- THE SHEET

end_takes : (ls : List Line) (n : ℕ) → Takes (λ u l. l ≡ []) ls (read_end ls n)
unfolding read_end
end_takes [] n = Takes-give refl
end_takes (l ∷ ls) n = takes_none

-- each count is how many there are
counts : (rows : List Row) (forms : List Form) (devices : List ℕ) (main : List Instr) (t f i : ℕ) → length rows ≡ t → length forms ≡ f → length main ≡ i
    → (line Place.Types (t ∷ []) ∷ []) ++ (rows_written rows ++ ((line Place.Forms (f ∷ []) ∷ []) ++ (forms_written forms ++ (devices_written devices ++ ((line Place.Main (i ∷ []) ∷ []) ++ (map instr_written main ++ []))))))
    ≡ sheet_written (record { rows = rows; forms = forms; devices = devices; main = main })
counts rows forms devices main t f i a b c =
    let s : Sheet = record { rows = rows; forms = forms; devices = devices; main = main } in
    (λ j. line Place.Types (sym a j ∷ []) ∷ (rows_written rows ++ (line Place.Forms (sym b j ∷ []) ∷ (forms_written forms ++ (devices_written devices ++ (line Place.Main (sym c j ∷ []) ∷ append-nil (map instr_written main) j))))))
    ∙ ap (λ (z : List Line). line Place.Types (length rows ∷ []) ∷ z)
    (sym (append_assoc (rows_written rows) (line Place.Forms (length forms ∷ []) ∷ []) (forms_written forms ++ after_forms s)))

sheet_takes : (ls : List Line) (n : ℕ) → Takes (λ s l. l ≡ sheet_written s) ls (read_sheet ls n)
unfolding read_sheet
sheet_takes ls n =
    Takes-then (NumberWritten Place.Types) _ (Takes-one (count_line Place.Types 1 row_limit) (types_written 1 row_limit) ls n)
    (λ t l₁ e₁ ls n. Takes-then (All rows_written t) _ (Takes-items rows_written row_written rows_snoc rows_none read_row row_takes t ls n)
    (λ rows l₂ e₂ ls n. Takes-then (NumberWritten Place.Forms) _ (Takes-one (count_line Place.Forms 0 form_limit) (forms_written_lem 0 form_limit) ls n)
    (λ f l₃ e₃ ls n. Takes-then (All forms_written f) _ (Takes-items forms_written form_written forms_snoc forms_none (read_form rows f) (form_takes rows f) f ls n)
    (λ forms l₄ e₄ ls n. Takes-then (λ fs l. l ≡ devices_written fs) _ (devices_take f ls n)
    (λ devices l₅ e₅ ls n. Takes-then (NumberWritten Place.Main) _ (Takes-one (body_line Place.Main (size_of_forms forms)) (main_written (size_of_forms forms)) ls n)
    (λ i l₆ e₆ ls n. Takes-then (All (map instr_written) i) _ (instrs_take f (length devices) i ls n)
    (λ main l₇ e₇ ls n. Takes-then (λ u l. l ≡ []) _ (end_takes ls n)
    (λ u l₈ e₈ ls n. Takes-give
    ((λ j. e₁ j ++ (e₂.lines j ++ (e₃ j ++ (e₄.lines j ++ (e₅ j ++ (e₆ j ++ (e₇.lines j ++ (e₈ j ++ []))))))))
    ∙ counts rows forms devices main t f i e₂.counted e₄.counted e₇.counted)))))))))

-- nothing is left when a sheet was read
data NoneLeft {A : Type 0} : Read A → Type 0 where
  none_left : {a : A} {n : ℕ} → NoneLeft (got a [] n)
  not_read : {r : Reason} {n : ℕ} → NoneLeft (refused r n)

left_then : {A B : Type 0} (x : Read A) (k : A → Reader B) → ((a : A) (ls : List Line) (n : ℕ) → NoneLeft (k a ls n)) → NoneLeft (and_then x k)
unfolding and_then
left_then (got a ls n) k h = h a ls n
left_then (refused r n) k h = not_read

left_end : {A : Type 0} (a : A) (ls : List Line) (n : ℕ) → NoneLeft (and_then (read_end ls n) (λ u. give a))
unfolding read_end and_then
left_end a [] n = none_left
left_end a (l ∷ ls) n = not_read

sheet_left : (ls : List Line) (n : ℕ) → NoneLeft (read_sheet ls n)
unfolding read_sheet
sheet_left ls n =
    left_then (one (count_line Place.Types 1 row_limit) ls n) _ (λ t ls n.
    left_then (many t read_row [] ls n) _ (λ rows ls n.
    left_then (one (count_line Place.Forms 0 form_limit) ls n) _ (λ f ls n.
    left_then (many f (read_form rows f) [] ls n) _ (λ forms ls n.
    left_then (read_devices f ls n) _ (λ devices ls n.
    left_then (one (body_line Place.Main (size_of_forms forms)) ls n) _ (λ i ls n.
    left_then (read_instrs f (length devices) i ls n) _ (λ main ls n. left_end _ ls n)))))))

-- the lines that read as a sheet are its lines
pub lines_written : (ls : List Line) (n : ℕ) (s : Sheet) → conclude (read_sheet ls n) ≡ readable s → ls ≡ sheet_written s
lines_written ls n s e = go (read_sheet ls n) (sheet_takes ls n) (sheet_left ls n) e
  where
    go : (x : Read Sheet) → Takes (λ a l. l ≡ sheet_written a) ls x → NoneLeft x → conclude x ≡ readable s → ls ≡ sheet_written s
    go (got a [] m) (takes {taken = l} q d) none_left e = let same : a ≡ s = cc in d ∙ append-nil l ∙ q ∙ ap sheet_written same
    go (refused r m) takes_none not_read e = clash (cc)
    go (got a (_ ∷ _) m) _ x11 e = elim x11 [ ]
