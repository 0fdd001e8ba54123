use Rattle.std.proofs.Common.{◌∙◌, sym, ap, ◌+◌, ◌∷◌, List, ℕ, take}
use Rattle.std.proofs.lemmas.List.{take_rest}
use Rattle.csp_model.specs.Ascii.{split_at}
use Rattle.csp_proof.proofs.FirstLines.{at_first, none_first}
use Rattle.csp_proof.proofs.read.first_line.Goals as goal

pub returns-in-Some-clause-parts : goal.returns-in-Some-clause-parts
returns-in-Some-clause-parts c =
    at_first c.args.text.now c.in-Some.at c.in-Some.ensures.value
    ∙ ap (λ (rest : List ℕ). take c.in-Some.at c.args.text.now ∷ split_at 10 rest) (sym (take_rest c.args.text.now (c.in-Some.at + 1)))

pub returns-in-None-clause-parts : goal.returns-in-None-clause-parts
returns-in-None-clause-parts c = none_first c.args.text.now c.in-None.ensures.value
