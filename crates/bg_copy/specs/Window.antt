-- How a window adds up its counts.
use Rattle.std.specs.Prelude.{ℕ, ◌≡◌, ◌+◌, ◌<◌, ◌≤◌, sum, length}
use Rattle.std.specs.List.{All}
use Rattle.circular_buffer.specs.Buffer.{Buffer}
use Rattle.bg_copy.specs.declared.moderation.TheConstants.{MOST_WINDOW, MOST_LIMIT}

-- the counts of the current tick and of the earlier ones fit the ring, and the total is their sum
pub record AreAdded (limit current : ℕ) (earlier : Buffer ℕ) (total : ℕ) : Type 0 where
  pub room : length earlier.items ≤ earlier.capacity
  pub ticks : earlier.capacity < MOST_WINDOW
  pub most : limit ≤ MOST_LIMIT
  pub now : current ≤ MOST_LIMIT + 1
  pub before : All (λ count. count ≤ MOST_LIMIT + 1) earlier.items
  pub sums : total ≡ current + sum earlier.items
