pub mod Carried
pub mod HashesSame
pub mod Narrowing
pub mod OneOrder
pub mod PairsApart
pub mod PairsListed
pub mod ReasonsGiven
pub mod WaysFound
