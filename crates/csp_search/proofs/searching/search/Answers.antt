use Rattle.csp_search.proofs.AskedNames.{is_asked}
use Rattle.csp_search.proofs.searching.search.Goals as goal

pub find_tree-requires-clause-asked : goal.find_tree-requires-clause-asked
find_tree-requires-clause-asked c =
    is_asked (record { question = c.args.question; names = c.deref.result }) _ c.args.walker.now.atoms c.deref.ensures.value c.in_ok-names.ensures c.requires.posed
