-- What a policy is asked at a shape: all that its sentence depends on there.
use Rattle.std.specs.Prelude.{ℕ, is_some, Bool, true, false, ◌&&◌, if◌then◌else◌, List, [], Option, Some, None, slice_get}
use Rattle.std.specs.List.{list_any}
use Rattle.csp_model.specs.DecideTokens.{has_keyword}
use Rattle.csp_model.specs.declared.check.FetchRule.{FetchRule}
use Rattle.csp_model.specs.declared.check.FetchRule.TheVariants as rule
use Rattle.csp_model.specs.declared.policy.Directive.{Directive}
use Rattle.csp_model.specs.declared.policy.Policy.{Policy}
use Rattle.csp_model.specs.declared.source.Hash.{Hash}
use Rattle.csp_model.specs.declared.source.Keyword.TheVariants as keyword
use Rattle.csp_model.specs.declared.source.PathPart.TheVariants as path_part
use Rattle.csp_model.specs.declared.source.Source.{Source}
use Rattle.csp_model.specs.declared.source.Source.TheVariants as source
use Rattle.csp_model.specs.declared.url.Origin.{Origin}
use Rattle.csp_model.specs.declared.url.Scheme.{Scheme}
use Rattle.csp_facts.specs.declared.shape.Shape.{Shape}
use Rattle.csp_facts.specs.declared.shape.Shape.TheVariants as shape
use Rattle.csp_formula.specs.Compiled.{fetch_sentence, inline_sentence}
use Rattle.csp_formula.specs.Sentences.{Sentence, Known}
use Rattle.csp_formula.specs.Sources.{list_sentence}
use Rattle.csp_formula.specs.declared.question.ListQuestion.{ListQuestion}
use Rattle.csp_formula.specs.declared.question.ShapeQuestion.{ShapeQuestion}
use Rattle.csp_formula.specs.declared.question.ShapeQuestion.TheVariants as asks

-- a shape with such URLs
abbrev pub urls_shape : Option Scheme → Bool → Bool → Shape
urls_shape scheme redirected is_ancestor =
    if is_ancestor then shape.Ancestor scheme else shape.Form scheme redirected

abbrev pub shape_asked : ListQuestion → Shape
shape_asked q = urls_shape q.scheme q.redirected q.is_ancestor

-- what the list of a directive says; where there is none, all is allowed
abbrev pub said_by_list : Option Directive → (List Source → Sentence) → Sentence
said_by_list None says = Known true
said_by_list (Some d) says = says d.sources

-- what a list says to a question
abbrev pub answer_of_list : Origin → List Hash → ListQuestion → List Source → Sentence
answer_of_list self hashes q sources =
    fetch_sentence q.rule hashes sources q.parser_inserted (list_sentence self (shape_asked q) sources)

-- what the list at its place says to it
abbrev pub list_answer : Policy → List Hash → ListQuestion → Sentence
list_answer policy hashes q =
    said_by_list (slice_get policy.directives q.place) (answer_of_list policy.origin hashes q)

-- what the policy says to a question, where the vocabulary has these hashes
abbrev pub question_sentence : Policy → List Hash → ShapeQuestion → Sentence
question_sentence policy hashes (asks.Known b) = Known b
question_sentence policy hashes (asks.Listed q) = list_answer policy hashes q
question_sentence policy hashes (asks.Inline place which) =
    said_by_list (slice_get policy.directives place) (inline_sentence which)

-- 'strict-dynamic' stands in place of what the list says of URLs
abbrev pub is_dynamic : FetchRule → List Source → Bool
is_dynamic rule.Script sources = has_keyword keyword.StrictDynamic sources
is_dynamic by sources = false

-- the source has a path
abbrev pub has_path : Source → Bool
has_path (source.Hosted scheme host port path_part.Absent) = false
has_path (source.Hosted scheme host port path) = true
has_path other = false

-- whether a redirect led there counts where a path of the list can be compared
abbrev pub redirect_counts : Option Scheme → List Source → Bool
redirect_counts scheme sources = is_some scheme && list_any has_path sources

-- what a list is asked of fetches, but for what it doesn't look at
abbrev pub list_question : ℕ → FetchRule → Option Scheme → Bool → Bool → List Source → ListQuestion
list_question place by scheme redirected parser_inserted sources = record {
  place = place;
  rule = by;
  scheme = scheme;
  redirected = redirected && redirect_counts scheme sources;
  is_ancestor = false;
  parser_inserted = parser_inserted && is_dynamic by sources;
}

-- an empty list that decides alone matches nothing
abbrev pub matches_nothing : FetchRule → List Source → Bool
matches_nothing rule.List [] = true
matches_nothing by sources = false

-- what is asked of a list
abbrev pub of_list : ListQuestion → List Source → ShapeQuestion
of_list q sources = if matches_nothing q.rule sources then asks.Known false else asks.Listed q
