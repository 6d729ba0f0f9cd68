-- What a search for the last write on an item found, as the code says it, is a write or none. Assumes nothing.
use Rattle.std.specs.Prelude.{Some, None}
use Rattle.std.specs.Prelude
use Rattle.std.proofs.Math.Option.{Option, none, some}
use Rattle.logs.specs.declared.Entry.{Entry}
use Rattle.logs.specs.Write.{Write}
use Rattle.logs.specs.Stored.{write_of}

-- The last write on an item, or that there is none.
unfoldable pub last_of : Prelude.Option Entry → Option Write
last_of None = none
last_of (Some e) = some (write_of e)
