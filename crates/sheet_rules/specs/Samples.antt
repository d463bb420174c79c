-- The two sheets of document 01 and one with devices, as texts, and how to vary them (One sheet in full; document 02, order 7).
-- Stands on Keys, for the bytes of a text.
use Rattle.std.specs.Prelude.{ℕ, pred, List, [], ◌∷◌, ◌++◌, set}
use Prim.Native.String.{String}
use Rattle.sheet_rules.specs.Lines.{newline}
use Rattle.sheet_rules.specs.Keys.{bytes}

-- the text of some lines: the bytes of each, and a byte 10
unfoldable pub text_of : List String → List ℕ
text_of [] = []
text_of (l ∷ ls) = bytes l ++ (newline ∷ text_of ls)

-- lines with the one of number n, counted from 1, replaced
abbrev pub with_line : ℕ → String → List String → List String
with_line n l ls = set ls (pred n) l

-- P, a clerk before a scale
abbrev pub P : List String
P =
    "types=3"
    ∷ "type=0,0"
    ∷ "type=1,1"
    ∷ "def=1,0,0"
    ∷ "type=1,1"
    ∷ "def=2,0,0"
    ∷ "forms=3"
    ∷ "form=0,0"
    ∷ "form=1,0"
    ∷ "body=1"
    ∷ "copy=1"
    ∷ "form=2,1"
    ∷ "keep=1"
    ∷ "body=1"
    ∷ "call=2,1,1"
    ∷ "main=4"
    ∷ "new=0"
    ∷ "new=1"
    ∷ "new=2,1"
    ∷ "call=2,2,0"
    ∷ []

-- L, a method that calls itself without end
abbrev pub L : List String
L =
    "types=2"
    ∷ "type=0,0"
    ∷ "type=1,1"
    ∷ "def=1,0,0"
    ∷ "forms=2"
    ∷ "form=0,0"
    ∷ "form=1,0"
    ∷ "body=1"
    ∷ "call=0,1,1"
    ∷ "main=3"
    ∷ "new=0"
    ∷ "new=1"
    ∷ "call=1,1,0"
    ∷ []

-- D, a scale and a valve as devices, and a clerk that main gives the scale (document 02, order 7)
abbrev pub D : List String
D =
    "types=4"
    ∷ "type=0,0"
    ∷ "type=1,1"
    ∷ "def=1,0,0"
    ∷ "type=1,1"
    ∷ "def=2,0,0"
    ∷ "type=1,1"
    ∷ "def=3,0,0"
    ∷ "forms=4"
    ∷ "form=0,0"
    ∷ "form=1,0"
    ∷ "body=1"
    ∷ "copy=1"
    ∷ "form=2,0"
    ∷ "body=1"
    ∷ "copy=1"
    ∷ "form=3,1"
    ∷ "keep=1"
    ∷ "body=1"
    ∷ "call=2,1,1"
    ∷ "devices=2"
    ∷ "device=1"
    ∷ "device=2"
    ∷ "main=3"
    ∷ "new=0"
    ∷ "new=3,0"
    ∷ "call=3,3,2"
    ∷ []
