-- What a literal adds to the parts of a cell makes a cell again.
use Rattle.std.proofs.Common.{◌≡◌, not, List, ◌++◌, None, All}
use Rattle.std.proofs.lemmas.List.Elements.{All-filter}
use Rattle.csp_facts.specs.declared.atom.Literal.{Literal}
use Rattle.csp_facts.specs.declared.shape.Shape.{Shape}
use Rattle.csp_cell.specs.Cells.{implies, needed_beside, Takes, IsCell, IsOf}
use Rattle.csp_facts.specs.Follows.{decided}
use Rattle.csp_cell.specs.Inside.{IsPlacing, IsOther, Adds}
use Rattle.csp_cell.proofs.Parts.{takes_added}
use Rattle.csp_cell.proofs.Splitting.{new_cell}

module _ (kind : Shape) (p o kept_p kept_o new_p new_o : List Literal) (l : Literal)
    (first : kept_p ≡ needed_beside l p) (second : kept_o ≡ needed_beside l o) (adds : Adds kept_p kept_o l new_p new_o)
    (undecided : decided (p ++ o) l.atom ≡ None) (cell : IsCell (record { shape = kind; literals = p ++ o })) where
  takes : Takes (p ++ o) l (new_p ++ new_o)
  takes = takes_added l p o new_p new_o (rw (← first, ← second) adds)

  pub made_cell : IsOf kind l → IsCell (record { shape = kind; literals = new_p ++ new_o })
  made_cell here = new_cell (record { shape = kind; literals = p ++ o }) (new_p ++ new_o) l takes undecided here cell

  pub made_placing : All IsPlacing p → All IsPlacing new_p
  made_placing all = adds.first (rw first (All-filter (λ other. not (implies l other)) IsPlacing p all))

  pub made_others : All IsOther o → All IsOther new_o
  made_others all = adds.second (rw second (All-filter (λ other. not (implies l other)) IsOther o all))
