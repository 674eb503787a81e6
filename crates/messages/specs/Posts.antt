-- What an outbox holds.
-- Assumes nothing.
use Rattle.std.specs.Prelude.{List, take}
use Rattle.messages.specs.declared.outbox.Outbox.{Outbox}
use Rattle.messages.specs.declared.outbox.Post.{Post}

-- the messages in it, in the order in which they were said
abbrev pub posts : Outbox → List Post
posts box = take box.used box.places
