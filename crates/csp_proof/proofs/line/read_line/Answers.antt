use Rattle.std.proofs.Common.{◌≡◌, sym, subst, ℕ, List}
use Rattle.std.specs.Prelude.{Option}
use Rattle.std.specs.Str.{IsUtf8}
use Rattle.std.proofs.lemmas.Result.{IfOk-weaker}
use Rattle.csp_proof.specs.Reading.{line_of, IsReadAs}
use Rattle.csp_proof.specs.declared.line.ProofLine.{ProofLine}
use Rattle.csp_proof.proofs.LineBytes.{utf8_line}
use Rattle.csp_proof.proofs.LinesRead.{read_as}
use Rattle.csp_proof.proofs.line.read_line.Goals as goal

told : (text bytes : List ℕ) (found : Option ProofLine) → text ≡ bytes → found ≡ line_of text → IsReadAs bytes found
told text bytes found same is = subst (λ (b : List ℕ). IsReadAs b found) same (subst (λ (o : Option ProofLine). IsReadAs text o) (sym is) (read_as text))

pub returns-in-Ok : goal.returns-in-Ok
returns-in-Ok c =
    IfOk-weaker c.read_text.result (λ (found : Option ProofLine). found ≡ line_of c.in-Ok.text.now) (λ (found : Option ProofLine). IsReadAs c.args.bytes.now found)
    (λ found is. told c.in-Ok.text.now c.args.bytes.now found c.in-Ok.ensures.cases.0 is) c.read_text.ensures

pub returns-in-Err : goal.returns-in-Err
returns-in-Err c = λ l valid same. c.in-Err.ensures.cases.0 (subst IsUtf8 (sym same) (utf8_line l valid))
