-- What holds of the parts of a cell.
use Rattle.std.specs.Prelude.{◌≡◌, true, false, List, ◌∷◌, ◌++◌, All}
use Rattle.csp_facts.specs.declared.atom.Literal.{Literal}
use Rattle.csp_cell.specs.Cells.{Region, IsCell, places}
use Rattle.csp_cell.specs.declared.cell.Cell.TheInside.{Inside}

abbrev pub region_of : Inside → Region
region_of a = record { shape = a.shape; literals = a.placing.items ++ a.others.items }

abbrev pub IsPlacing : Literal → Type 0
IsPlacing literal = places literal ≡ true

abbrev pub IsOther : Literal → Type 0
IsOther literal = places literal ≡ false

pub record IsMade (a : Inside) : Type 0 where
  pub cell : IsCell (region_of a)
  pub placing : All IsPlacing a.placing.items
  pub others : All IsOther a.others.items

-- the literal stands somewhere among the old ones, in the part that is its own
pub record Adds (placing others : List Literal) (literal : Literal)
    (new_placing new_others : List Literal) : Type 0 where
  pub list : (front back : List Literal) × (front ++ back ≡ placing ++ others)
      × (new_placing ++ new_others ≡ front ++ literal ∷ back)
  pub first : All IsPlacing placing → All IsPlacing new_placing
  pub second : All IsOther others → All IsOther new_others
