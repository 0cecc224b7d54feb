-- What a row answers, and what is told of it.
use Rattle.std.specs.Prelude.{Bool, Result, Ok, Err}
use Rattle.tink_io.specs.declared.error.Kind.{Kind}
use Rattle.tink_io.specs.declared.error.TinkError.{TinkError}

abbrev pub answer_of : Result Bool TinkError → Result Bool Kind
answer_of (Ok holds) = Ok holds
answer_of (Err e) = Err e.kind
