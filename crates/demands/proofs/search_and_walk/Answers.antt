-- The two calls' promises, and what follows from them.
use Rattle.demands.proofs.Demand3.{search_finds, walk_gives}
use Rattle.demands.proofs.search_and_walk.Goals as goal

pub returns : goal.returns
returns c = let g = c.args in record { finds = search_finds g.commits.now g.index.now g.snapshot.now g.out.now g.page c.requires _ c.sigatuda_search-found.ensures; gives = (λ within long. walk_gives g.commits.now g.index.now g.snapshot.now g.out.now g.page c.requires _ c.sigatuda_search-found.ensures g.list.now g.items.now _ c.sigatuda_walk-walked.ensures within long) }
