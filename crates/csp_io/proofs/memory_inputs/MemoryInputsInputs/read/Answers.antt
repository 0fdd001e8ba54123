use Rattle.std.proofs.Common.{ℕ, List, IsSome, sym, subst, take, Option, refl}
use Rattle.csp_io.specs.Files.{contents_of}
use Rattle.csp_io.specs.Starts.{Start, LastIsThere, MissingAreUnread, finds_end}
use Rattle.csp_io.specs.Types.{OpenFile}
use Rattle.csp_io.proofs.Missing.{gave_unread, gave_there}
use Rattle.csp_io.proofs.memory_inputs.MemoryInputsInputs.read.Goals as goal

pub invariant_of-self-2 : goal.invariant_of-self-2
invariant_of-self-2 c =
    let P : List Start → Type 0 = λ log. MissingAreUnread (contents_of c.args.self.now.files) log in
    let Q : List Start → Type 0 = λ log. LastIsThere (contents_of c.args.self.now.files) log in
    let bytes : List ℕ = take c.copy_front-n.result c.copy_front-n.new.into in
    let there : Q c.args.self.now.log.items =
    c.args.self.now.there (let R : Option OpenFile → Type 0 = λ o. IsSome o in subst R (sym c.in-Some.is) refl) in
    record {
      some = c.args.self.now.some;
      missing = subst P (sym c.after_read-self.ensures) (gave_unread (contents_of c.args.self.now.files) _ bytes (finds_end bytes c.copy_front-n.new.into) c.args.self.now.missing there);
      there = λ _. subst Q (sym c.after_read-self.ensures) (gave_there (contents_of c.args.self.now.files) c.args.self.now.log.items bytes (finds_end bytes c.copy_front-n.new.into) there);
    }
