pub mod Folds
mod HostLaws
mod KindLaws
mod LowerLaws
mod PathLaws
mod PortLaws
mod QuotedLaws
mod SchemeEnds
mod SchemeLaws
mod SegmentLaws
mod SourceLaws
mod SpellingLaws
