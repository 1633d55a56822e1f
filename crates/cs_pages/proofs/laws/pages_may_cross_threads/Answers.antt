use Rattle.cs_pages.proofs.pages.Pages.TheSendSync as pages
use Rattle.cs_pages.proofs.laws.pages_may_cross_threads.Goals as goal

pub returns : goal.returns
returns c = pages.the_send
