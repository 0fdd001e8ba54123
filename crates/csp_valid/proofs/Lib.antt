mod ReadLists
mod Requests
mod Urls
