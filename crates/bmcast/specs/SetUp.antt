-- Inner: what the words set a deployment up with.
use Rattle.fill_bitmap.specs.declared.area.Area.{Area}
use Rattle.monitor_state.specs.declared.Setup.{Setup}
use Rattle.run_words.specs.Options.{Choice}

-- the numbers of a choice, over this area
abbrev pub setup_of : Area → Choice → Setup
setup_of area choice = record {
  area = area;
  id = choice.id;
  gap = choice.sizes.gap;
  window = choice.sizes.window;
  limit = choice.sizes.limit;
  pool = choice.sizes.pool;
}
