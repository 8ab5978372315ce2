use Rattle.cu_io.proofs.Reading.{feed_is}
use Rattle.cu_io.proofs.line_reader.feed.Goals as goal

pub returns : goal.returns
returns c = feed_is c.args.bytes.now c.line_feed.result c.line_feed.ensures
