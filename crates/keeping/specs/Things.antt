-- Where the figure of a thing stands: those of the subjects come first. Assumes nothing.
use Rattle.std.specs.Prelude.{ℕ, ◌+◌, ◌%◌}
use Rattle.keeping.specs.declared.Thing.{Thing}
use Rattle.keeping.specs.declared.Thing.TheVariants.{Subject, Object}

abbrev pub place_of : Thing → ℕ
place_of (Subject s) = s % 32
place_of (Object o) = 32 + o % 64
