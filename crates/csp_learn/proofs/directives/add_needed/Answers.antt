use Rattle.csp_model.specs.Ascii.{is_ascii_text}
use Rattle.csp_learn.proofs.Chosen.{all_chosen}
use Rattle.csp_learn.proofs.directives.add_needed.Goals as goal

pub directive_of-requires : goal.directive_of-requires
directive_of-requires c =
    let is = c.in_ok-tokens.ensures in rw is (all_chosen is_ascii_text c.name_text-name.result.now c.args.needs.now.keys c.requires)
