-- The code's members, as the definitions' words. Assumes nothing.
use Rattle.std.specs.Prelude.{List}
use Rattle.book.specs.Records.{Member, members_of}
use Rattle.book.specs.declared.list.Member as Code
use Rattle.book.specs.declared.list.Members.{Members}

abbrev pub member_in : Code.Member → Member
member_in m = record { tag = m.tag; flag = m.flag }

-- the members that are still to come
abbrev pub members_left : Members → List Member
members_left s = members_of s.rest.now
