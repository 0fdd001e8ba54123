-- What a formula says as a sentence.
use Rattle.csp_formula.specs.Sentences.{Sentence, Known, Fact, Not, all_of, any_of}
use Rattle.csp_formulas.specs.declared.formula.Formula.{Formula}
use Rattle.csp_formulas.specs.declared.formula.Formula.TheOpen.{Formula-F}
use Rattle.csp_formulas.specs.declared.formula.Formula.TheFolds.{fold-Formula}

abbrev pub sentence_step : Formula-F Sentence → Sentence
sentence_step (Formula-F.Constant b) = Known b
sentence_step (Formula-F.Fact a) = Fact a
sentence_step (Formula-F.Not x) = Not x.value
sentence_step (Formula-F.Every xs) = all_of xs.items
sentence_step (Formula-F.OneOf xs) = any_of xs.items

abbrev pub sentence_of : Formula → Sentence
sentence_of = fold-Formula Sentence sentence_step
