-- The text that a writer of rows has written.
use Rattle.std.specs.Prelude.{◌++◌, Option, Some, None, ◌≡◌, false, if◌then◌else◌}
use Rattle.csv.specs.Writing.{default_writer, fields_written, has_written, writer_pending, writer_setup, writer_under}
use Rattle.cu_tables.specs.WrittenTexts.{WrittenText}
use Rattle.cu_tables.specs.declared.writing.RowWriter.TheInside.{Inside}

-- what it wrote; nothing more is known once it failed
abbrev pub written : Inside → Option WrittenText
written a = if a.failed then None else Some (record { text = (writer_under a.writer).items ++ writer_pending a.writer; width = a.width })

-- between rows, in csv's default way of writing
abbrev pub IsBetweenRows : Inside → Type 0
IsBetweenRows a = a.failed ≡ false → (writer_setup a.writer ≡ default_writer) × (fields_written a.writer ≡ 0) × (has_written a.writer ≡ false)
