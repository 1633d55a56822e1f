use Rattle.std.proofs.Common.{◌≡◌, ◌++◌, ◌+◌, length, false}
use Rattle.cs_tree.specs.Directories.{inos, path_of}
use Rattle.cs_records.specs.CommitNews.{commit_news}
use Rattle.cs_records.specs.Records.{Settles}
use Rattle.cs_records.proofs.Telling.{news_if}
use Rattle.cs_records.proofs.records.Records.commit.Given as goal

abbrev pub invariant-loop : goal.invariant-loop
invariant-loop l = record {
  front : Settles l.fn.self l.self;
  left : length l.self.fresh + l.counter ≡ l.to;
  told : l.out ++ news_if l.sending (commit_news (path_of l.directories) (inos l.directories) l.self.durable l.self.fresh)
      ≡ l.fn.out ++ news_if l.sending (commit_news (path_of l.directories) (inos l.directories) l.fn.self.durable l.fn.self.fresh);
  quiet : l.sending ≡ false → l.out ≡ l.fn.out;
}
