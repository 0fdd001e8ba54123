use Rattle.std.proofs.Common.{◌≡◌, ◌∙◌, subst, List}
use Rattle.csp_cell.specs.Cells.{Meets}
use Rattle.csp_model.specs.Validity.{IsValidCheck}
use Rattle.csp_model.specs.declared.check.Check.{Check}
use Rattle.csp_model.specs.declared.source.Hash.{Hash}
use Rattle.csp_facts.specs.Shapes.{HasShape}
use Rattle.csp_facts.specs.declared.shape.Shape.{Shape}
use Rattle.csp_proof.proofs.ReadableSaid.{are_said}
use Rattle.csp_search.specs.Answers.{ShowsNone}
use Rattle.csp_search.specs.Questions.{lists_of, pair_of}
use Rattle.csp_search.proofs.AtomsAsked.{atoms_asked, branch_belongs, cell_among, cell_known}
use Rattle.csp_search.proofs.NothingOpen.{leaves_nothing}
use Rattle.csp_search.proofs.Ports.{leaves_ports}
use Rattle.csp_search.proofs.Refused.{if_all, shows_none}
use Rattle.csp_search.proofs.Saying.{leaves_open}
use Rattle.csp_search.proofs.open.open_check.Goals as goal

pub cell_of-requires-clause-belongs : goal.cell_of-requires-clause-belongs
cell_of-requires-clause-belongs c =
    let q = c.args.asked.question in
    let at = c.args.walker.now in
    branch_belongs q at.atoms at.literals c.requires.branch (atoms_asked c.the_atoms_of_a_formula_are_of_its_shape.ensures q at.atoms c.requires.asked.posed)

pub representative-requires-clause-known : goal.representative-requires-clause-known
representative-requires-clause-known c =
    let q = c.args.asked.question in
    let at = c.args.walker.now in
    cell_known q at.atoms at.literals c.requires.branch c.in_ok-cell.cell c.in_ok-cell.ensures (atoms_asked c.the_atoms_of_a_formula_are_of_its_shape.ensures q at.atoms c.requires.asked.posed)

pub representative-requires-clause-ports : goal.representative-requires-clause-ports
representative-requires-clause-ports c =
    let q = c.args.asked.question in
    let at = c.args.walker.now in
    leaves_ports q c.requires.asked.posed.lists.first c.requires.asked.posed.lists.second c.in_ok-cell.cell.literals c.shape.ensures.together
    (cell_among q at.atoms at.literals c.requires.branch c.in_ok-cell.cell c.in_ok-cell.ensures)

pub returns : goal.returns
returns c =
    let q = c.args.asked.question in
    let posed = c.requires.asked.posed in
    let ls = c.args.walker.now.literals in
    let cell = c.in_ok-cell.cell in
    let kind : c.shape.result ≡ q.shape = c.shape.ensures.shape ∙ c.in_ok-cell.ensures.shape in
    let nothing = leaves_nothing c.an_answer_speaks_of_its_names.ensures.atoms c.literals_that_decide_each_atom_decide_a_sentence.ensures q c.args.walker.now.atoms ls c.args.asked.names.now posed c.requires.asked.names c.requires.known in
    if_all IsValidCheck (λ (asked : Check). HasShape asked c.shape.result) (λ (asked : Check). Meets q.lists.now.vocabulary.hashes asked cell.literals) (ShowsNone (lists_of q) (pair_of q))
    c.representative.result c.representative.ensures.valid c.representative.ensures.shape c.representative.ensures.meets
    (λ asked valid shape meets.
    shows_none (lists_of q) (pair_of q) ls asked valid (subst (λ (s : Shape). HasShape asked s) kind shape)
    (subst (λ (hs : List Hash). Meets hs asked ls) posed.lists.hashes (c.in_ok-cell.ensures.meets q.lists.now.vocabulary.hashes asked meets))
    (are_said c.a_formula_is_what_the_policy_allows.ensures q.lists.now.first.now q.lists.now.second.now posed.lists.first posed.lists.second)
    (leaves_open (lists_of q) (pair_of q) ls c.requires.no_leaf nothing) posed.enforced)
