use Rattle.std.proofs.Common.{◌≡◌, ◌+◌, ◌-◌, ◌*◌, ◌/◌, ◌<◌, ◌≤◌, [], length}
use Rattle.bm_dma.proofs.Searching.{search_from}
use Rattle.bm_dma.proofs.search.find_places.Given as goal

-- the search from here on finds what the whole search does
abbrev pub invariant-loop-i : goal.invariant-loop-i
invariant-loop-i l = record {
  few : length l.places.items < 512;
  low : l.skipped ≤ l.moved * 512;
  rest : search_from ((l.size - l.top) / 8 - l.i) (l.top + 8 * l.i) l.memory l.skipped l.places.items
      ≡ search_from ((l.size - l.top) / 8) l.top l.memory (l.moved * 512) [];
}
