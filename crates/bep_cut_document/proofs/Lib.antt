-- What a document without faults writes down is a cut, which says what the document lists.
mod KeysKept
mod LastFirst
mod SortingFacts
mod WrittenFacts
mod LinksWritten
mod CutWritten
mod AsWrittenFacts
mod AsWrittenViews
mod AsWrittenLinks
mod ToldFacts
pub mod RangeTold
mod ReadAgain
mod Shallow
mod WinnersInRange
mod ShortFacts
mod ShortWritten
pub mod back
