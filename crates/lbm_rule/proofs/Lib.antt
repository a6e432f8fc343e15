mod FirstLanes
mod Least
mod Lanes
