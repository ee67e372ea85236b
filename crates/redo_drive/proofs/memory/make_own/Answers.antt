use Rattle.redo_drive.proofs.memory.make_own.Goals as goal

pub returns : goal.returns
returns g c = record {
  layout = c.in_ok-words.ensures.layout;
  bytes = c.in_ok-words.ensures.bytes;
  first = c.in_ok-words.ensures.first;
  words = c.in_ok-words.ensures.starts;
  lists = c.in_ok-lists.ensures;
  actors = c.in_ok-actors.ensures.actors;
  readers = c.in_ok-actors.ensures.readers;
  no_entries = c.in_ok-entries.ensures.items;
  room = c.in_ok-entries.ensures.capacity;
}
