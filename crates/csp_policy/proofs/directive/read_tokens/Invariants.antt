use Rattle.std.proofs.Common.{◌≡◌, ◌-◌, ◌≤◌, ◌++◌, true, length, map, take}
use Rattle.csp_model.specs.Ascii.{is_ascii_text, words}
use Rattle.csp_model.specs.Reading.{source_of}
use Rattle.csp_policy.proofs.directive.read_tokens.Given as goal

-- the tokens, and the words of the rest that there is room for, are the words that there is room for
abbrev pub invariant-loop-rest : goal.invariant-loop-rest
invariant-loop-rest l = record {
  tokens : l.tokens ++ take (l.room - length l.tokens) (words l.rest) ≡ take l.room (words l.text);
  sources : l.sources ≡ map source_of l.tokens;
  room : length l.tokens ≤ l.room;
  ascii : is_ascii_text l.rest ≡ true;
}

abbrev pub decreases-loop-rest : goal.decreases-loop-rest
decreases-loop-rest l = l.room - length l.tokens
