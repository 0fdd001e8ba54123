use Rattle.std.proofs.Common.{◌≡◌, take, drop, min, true}
use Rattle.std.specs.List.{list_all}
use Rattle.std.specs.Char.{is_ascii_digit}
use Rattle.csp_model.specs.Grammar.{decimal_value}
use Rattle.csp_model.proofs.grammar.decimal_value.Given as goal

abbrev pub invariant-loop-digit : goal.invariant-loop-digit
invariant-loop-digit l = record {
  so_far : l.n ≡ min (decimal_value (take l.digit-index l.digits)) 65536;
  digits : list_all is_ascii_digit (drop l.digit-index l.digits) ≡ true;
}
