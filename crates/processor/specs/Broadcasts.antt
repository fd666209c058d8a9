-- A broadcast that is owed.
use Rattle.std.specs.Prelude.{ℕ, List, [], ◌∷◌, length, take, slice_index_or}
use Rattle.frames.specs.declared.link.Link.{Link}
use Rattle.frames.specs.Texts.{no_link}
use Rattle.processor.specs.declared.owed.Owed.{Owed}

-- what is owed by `own`, after links of which there are at most six
abbrev pub owed_for : ℕ → ℕ → ℕ → List Link → Owed
owed_for item value own links = record {
  item = item;
  value = value;
  own = own;
  count = length links;
  first = slice_index_or links 0 no_link;
  second = slice_index_or links 1 no_link;
  third = slice_index_or links 2 no_link;
  fourth = slice_index_or links 3 no_link;
  fifth = slice_index_or links 4 no_link;
  sixth = slice_index_or links 5 no_link;
}

-- the links so far
abbrev pub links_in : Owed → List Link
links_in o = take o.count (o.first ∷ o.second ∷ o.third ∷ o.fourth ∷ o.fifth ∷ o.sixth ∷ [])
