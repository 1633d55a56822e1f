use Rattle.std.proofs.Common.{rules}
use Rattle.std.specs.Str.Parse.{ParsesUnsigned, ExplainsUnsignedError, HasUnsignedDigitsIfOk}
use Rattle.cs_command.specs.Words.{texts_of}
use Rattle.cs_command.proofs.PagesRead.{pages_read}
use Rattle.cs_command.proofs.run.read_run.Goals as goal

pub unwrap-pages-requires : goal.unwrap-pages-requires
unwrap-pages-requires c =
    (pages_read c.in_ok-line.line c.in_ok-matches.matches (texts_of c.args.words.now) _
    (λ bs r. ParsesUnsigned 32 10 bs r × ExplainsUnsignedError 10 bs r × HasUnsignedDigitsIfOk bs r)
    c.get_one.result c.in_ok-line.ensures c.in_ok-matches.ensures.parsed c.in_ok-matches.ensures.matches
    c.in_ok-matches.ensures.kinds c.get_one.ensures.value (λ t x g. g.0)).some

pub returns : goal.returns
returns c =
    let read = pages_read c.in_ok-line.line c.in_ok-matches.matches (texts_of c.args.words.now) _
    (λ bs r. ParsesUnsigned 32 10 bs r × ExplainsUnsignedError 10 bs r × HasUnsignedDigitsIfOk bs r)
    c.get_one.result c.in_ok-line.ensures c.in_ok-matches.ensures.parsed c.in_ok-matches.ensures.matches
    c.in_ok-matches.ensures.kinds c.get_one.ensures.value (λ t x g. g.0) in
    record {
      ok = read.asked c.unwrap-pages.result c.unwrap-pages.ensures;
      usage = search rules;
      range = read.range c.unwrap-pages.result c.unwrap-pages.ensures;
    }
