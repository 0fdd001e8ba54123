use Rattle.std.proofs.Common.{◌∙◌, ap₂, refl}
use Rattle.csp_answer.specs.Asking.{names_but}
use Rattle.csp_answer.proofs.WordsNamed.{integrity_says, integrity_there, one_by_law}
use Rattle.csp_answer.proofs.words.integrity_of.Goals as goal

pub returns-clause-said : goal.returns-clause-said
returns-clause-said c = λ hashes are.
    let list = c.args.list in
    integrity_says c.args.names.now (one_by_law c.args.names.now c.an_atom_has_one_name.ensures c.are_in_order.ensures)
    hashes c.args.pairs.now list.origin.now list.sources.now list.names.now
    (record { outside = c.args.pairs.now.outside; others = c.in_ok-others.others; own = c.in_ok-own.own }) are c.requires.sources refl c.in_ok-own.ensures
    (c.in_ok-others.ensures ∙ ap₂ names_but c.deref.ensures.value (c.deref-2.ensures.value ∙ c.in_ok-own.ensures))

pub returns-clause-there : goal.returns-clause-there
returns-clause-there c = λ hashes are.
    let list = c.args.list in
    integrity_there c.args.names.now (one_by_law c.args.names.now c.an_atom_has_one_name.ensures c.are_in_order.ensures)
    hashes c.args.pairs.now list.origin.now list.sources.now list.names.now
    (record { outside = c.args.pairs.now.outside; others = c.in_ok-others.others; own = c.in_ok-own.own }) are c.requires.sources refl c.in_ok-own.ensures
    (c.in_ok-others.ensures ∙ ap₂ names_but c.deref.ensures.value (c.deref-2.ensures.value ∙ c.in_ok-own.ensures))
