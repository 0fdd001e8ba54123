-- Some of the keywords, as a list.
use Rattle.std.specs.Prelude.{Bool}
use Rattle.std.specs.List.{list_any}
use Rattle.csp_model.specs.DecideEquality.{same_keyword}
use Rattle.csp_model.specs.declared.source.Keyword.{Keyword}
use Rattle.csp_token.specs.declared.keyword.Keywords.{Keywords}

-- whether the keyword is among them
abbrev pub has : Keyword → Keywords → Bool
has word words = list_any (λ other. same_keyword other word) words.words
