-- The buffer after each step of filling the table by form and name: a member, the members of a row, the forms. Stands on the
-- table's view.
use Rattle.std.specs.Prelude.{ℕ, zero, suc, ◌+◌, List, [], ◌∷◌, set}
use Rattle.sheet_rules.specs.declared.Member.{Member}
use Rattle.sheet_rules.specs.declared.Member.TheVariants.{Method, Field}
use Rattle.sheet_rules.specs.Sheet.{Sheet, row_of_form}
use Rattle.sheet_rules.specs.RowLines.{name_of}
use Rattle.table.specs.Layout.{place_address}

-- the number of a member that j members come before, i of them fields: a method's is its place among the members, a field's
-- its place among the fields
abbrev pub number_of : Member → ℕ → ℕ → ℕ
number_of (Method n a r) j i = j
number_of (Field n r) j i = i

-- the fields up to a member, where i come before it
abbrev pub fields_after : Member → ℕ → ℕ
fields_after (Method n a r) i = i
fields_after (Field n r) i = i + 1

-- the number of a member stored, by form f and its name
abbrev pub member_placed : List ℕ → ℕ → Member → ℕ → ℕ → List ℕ
member_placed w f m j i = set w (place_address f (name_of m)) (number_of m j i)

-- the numbers of some members stored, where j members come before, i of them fields
unfoldable pub members_placed : List ℕ → ℕ → List Member → ℕ → ℕ → List ℕ
members_placed w f [] j i = w
members_placed w f (m ∷ ms) j i = members_placed (member_placed w f m j i) f ms (j + 1) (fields_after m i)

-- the members of the rows of a sheet's first n forms stored
unfoldable pub forms_placed : Sheet → List ℕ → ℕ → List ℕ
forms_placed s w zero = w
forms_placed s w (suc f) = members_placed (forms_placed s w f) f (row_of_form s f).members 0 0
