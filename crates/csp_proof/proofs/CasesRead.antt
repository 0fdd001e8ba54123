-- Nodes in preorder are one tree of cases, that of which they are the nodes.
use Rattle.std.proofs.Common.{◌≡◌, ◌∙◌, sym, ap, refl, List, [], ◌∷◌, ◌++◌, append-nil, append_assoc}
use Rattle.csp_proof.specs.Accepts.{under, cases_in}
use Rattle.csp_proof.specs.WellFormed.{Cases, Splits, IsBlocked, IsMet, preorder}
use Rattle.csp_proof.specs.declared.proof.Node.{Node}

pub cases_before : (cases : Cases) (rest : List Node) → cases_in (preorder cases ++ rest) ≡ cases ∷ cases_in rest
cases_before (IsBlocked policy) rest = refl
cases_before IsMet rest = refl
cases_before (Splits atom holds fails) rest =
    ap (λ (ns : List Node). under atom (cases_in ns)) (append_assoc (preorder holds) (preorder fails) rest)
    ∙ ap (under atom) (cases_before holds (preorder fails ++ rest) ∙ ap (λ (cs : List Cases). holds ∷ cs) (cases_before fails rest))

pub cases_back : (cases : Cases) → cases_in (preorder cases) ≡ cases ∷ []
cases_back cases = ap cases_in (sym (append-nil (preorder cases))) ∙ cases_before cases []
